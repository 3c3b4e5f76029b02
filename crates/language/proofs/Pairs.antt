-- What is true of two sheets that are read as one.
pub mod Joined
pub mod Lines
pub mod Places
pub mod Told
