pub mod Checked
pub mod Ruled
