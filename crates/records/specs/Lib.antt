pub mod Told
pub mod Machines
pub mod Readings
