pub mod Shares
pub mod Passes
pub mod Profiled
