pub mod CauseLengths
pub mod Lengths
pub mod Others
pub mod Refs
pub mod Signs
pub mod Spotting
pub mod ValueLengths
