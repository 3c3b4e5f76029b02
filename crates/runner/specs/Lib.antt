pub mod Phases
pub mod Trees
pub mod Waiting
pub mod Standing
pub mod Loops
pub mod Contract
