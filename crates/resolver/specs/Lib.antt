pub mod Spans
pub mod Resolves
