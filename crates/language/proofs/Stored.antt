-- What is true of stored sheets.
pub mod Hex
pub mod Lines
pub mod Lone
pub mod GoodLines
pub mod Reader
pub mod ReaderComplete
pub mod Bytes
pub mod Origin
pub mod Editions
pub mod ReadBack
pub mod SameSheet
pub mod BothEditions
pub mod OneStoring
pub mod LineNumbers
pub mod Cuts
pub mod Digits
pub mod Listed
