mod ParameterLaws
mod TakingLaws
mod FunctionLaws
mod BodyLaws
mod ProgramLaws
pub mod OneAnswer
