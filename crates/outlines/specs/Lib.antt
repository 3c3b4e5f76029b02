pub mod Reports
pub mod Words
