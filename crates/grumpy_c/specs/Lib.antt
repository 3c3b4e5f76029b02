pub mod Reports
pub mod Profilings
pub mod Pairs
pub mod Words
pub mod States
pub mod Shifts
pub mod Combining
