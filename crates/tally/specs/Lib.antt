pub mod Calls
pub mod Parts
pub mod Sums
pub mod Stands
pub mod Combining
