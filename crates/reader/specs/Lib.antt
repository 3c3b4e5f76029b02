-- What the reader's functions require and ensure.
pub mod Definitions
pub mod Findings
