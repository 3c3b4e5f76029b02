pub mod Sight
pub mod Asked
