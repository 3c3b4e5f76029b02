-- What is true of the written grammar.
pub mod Entries
pub mod FirstTokens
pub mod NumberThenName
pub mod Association
pub mod Reaching
pub mod OneReading
pub mod OldGrammar
pub mod FewNodes
pub mod OwnTokens
pub mod OwnOnce
pub mod Prefixes
pub mod SameTokens
pub mod FirstWrong
pub mod BeforeFloats
