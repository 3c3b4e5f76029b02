pub mod Spans
pub mod Cuts
