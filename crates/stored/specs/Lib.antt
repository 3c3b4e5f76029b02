pub mod Lines
pub mod Entries
pub mod Names
pub mod Rows
pub mod Answer
