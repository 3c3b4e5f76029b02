pub mod Told
pub mod Reports
pub mod Shifts
