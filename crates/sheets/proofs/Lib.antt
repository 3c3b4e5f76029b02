pub mod Layers
pub mod StoredLayers
pub mod NamedEdition
pub mod SourceLaws
pub mod OneAnswer
