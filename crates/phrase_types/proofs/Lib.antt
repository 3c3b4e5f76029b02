pub mod KeptLaws
pub mod ScopeLaws
mod Naming
mod NodeLaws
mod BindLaws
pub mod Covering
mod CoveredLaws
mod ReadyLaws
mod ReadyArguments
mod InferredLaws
mod CountedLaws
