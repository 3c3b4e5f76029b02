pub mod Shown
pub mod Parts
pub mod Editions
pub mod Forks
pub mod Found
pub mod Answer
