pub mod LinesRead
pub mod NumbersRead
pub mod ReadBack
pub mod Rows
pub mod Saying
pub mod Taken
pub mod Writable
