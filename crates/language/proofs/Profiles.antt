-- What is true of pay sheets.
pub mod OneProfile
pub mod PaySheets
pub mod Inside
pub mod TwoSheets
