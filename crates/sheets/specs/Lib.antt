pub mod Sheets
pub mod Sources
