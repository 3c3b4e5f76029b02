pub mod Meanings
pub mod Taking
pub mod After
pub mod Admitting
pub mod Feeding
pub mod Promises
pub mod Combining
