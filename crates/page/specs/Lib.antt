pub mod Amounts
pub mod Characters
pub mod Floats
pub mod Lines
pub mod Money
pub mod Text
pub mod Fields
