pub mod Parts
pub mod Words
pub mod Steps
pub mod Outputs
pub mod Digits
pub mod Forms
