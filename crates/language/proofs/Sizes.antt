-- Sizes (R13): what is so under some is so under larger ones, and what is so with the sizes apart.
pub mod Larger
pub mod TypesLarger
pub mod FaultsLarger
pub mod Wider
pub mod AnswersLarger
pub mod StoredLarger
pub mod TypesApart
pub mod Apart
pub mod Origins
pub mod OldBox
