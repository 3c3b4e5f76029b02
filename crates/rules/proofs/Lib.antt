pub mod TellLaws
pub mod SightLaws
pub mod OperatorLaws
pub mod ShapeLaws
pub mod CallLaws
pub mod BoundLaws
pub mod PlainLaws
