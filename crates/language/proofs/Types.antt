-- What is true of types and faults.
pub mod OneType
pub mod TypeNumbers
pub mod FaultPlaces
pub mod OldTypes
