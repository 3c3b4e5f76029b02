-- A parser and a type checker that can be worked out. They are vocabulary of the proofs and define nothing of the language:
-- what a reading, a type and a fault are, `specs/` says without them. The parser is sound and complete for the written
-- `Reads` (ParserSound, ParserComplete), the checker for `HasType` and `HasFault` (CheckerSound, CheckerComplete). So
-- contracts between layers may cite them, and theorems may go through them; the contract of a service never does.

-- the parser, and what it settles on once its fuel is enough
pub mod Parses
pub mod Parser
pub mod ParserSound
pub mod ParserClaims
pub mod ParserComplete
pub mod Settles
pub mod SettlesExpressions
pub mod SettlesLevels
pub mod SettlesLoops
pub mod SettlesPrograms
-- how far it looks, and that what it has passed can be completed
pub mod Locality
pub mod Agreement
pub mod Usable
pub mod Fresh
pub mod Failing
pub mod FailingPrograms
pub mod FailingExpressions
pub mod FailingAtoms
pub mod FailingLoops
pub mod Completion
-- operators in one loop
pub mod Climbing
-- the checker
pub mod Checks
pub mod Operators
pub mod Checker
pub mod CheckerSound
pub mod CheckerComplete
