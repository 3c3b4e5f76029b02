mod Applying
mod CellLaws
mod Computing
mod Counters
pub mod Keeping
mod Literals
mod Printing
mod Ranges
mod Reckoning
mod Seeking
pub mod Slotted
mod Storing
pub mod Telling
