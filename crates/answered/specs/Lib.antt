pub mod Refusals
pub mod Alike
pub mod Whole
pub mod Called
