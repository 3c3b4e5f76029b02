pub mod Reports
pub mod Outcomes
pub mod Writings
pub mod WritingLaws
pub mod Profilings
pub mod Calls
