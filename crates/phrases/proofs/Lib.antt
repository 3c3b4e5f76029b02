-- What is true of reading phrases: laws of numbers, of tokens and of rows, then a file for the ways through each group of readers.
mod Words
pub mod Standing
pub mod Moving
mod RowKinds
pub mod Answering
mod Listing
mod SeqLaws
pub mod ItemLaws
mod OperandLaws
mod OperatorLaws
mod CallLaws
mod LoopLaws
