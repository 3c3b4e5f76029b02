-- What is true of the reader: a file for the ways through each group of its functions, and that its contract leaves one answer.
mod TypeLaws
mod DefinitionLaws
mod ProgramLaws
pub mod OneFinding
