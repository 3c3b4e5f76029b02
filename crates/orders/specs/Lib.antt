pub mod Asked
pub mod Meanings
