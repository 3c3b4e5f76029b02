-- Laws that the proofs of `outlines` cite.
pub mod Matched
pub mod Drawing
pub mod Answering
pub mod Determined
