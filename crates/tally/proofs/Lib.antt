-- Laws that the proofs of `tally` cite.
pub mod Laws
pub mod Reported
pub mod Jobs
pub mod CallText
pub mod Payable
pub mod Combined
