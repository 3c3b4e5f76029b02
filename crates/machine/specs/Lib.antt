pub mod Operands
pub mod Slots
pub mod Rows
pub mod Outcomes
