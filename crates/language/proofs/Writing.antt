-- What is true of a sheet that is written out again.
pub mod Spelled
pub mod LastByte
pub mod ReadBack
pub mod Completing
pub mod OneWriting
pub mod SameSheet
