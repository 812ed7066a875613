-- The proofs of the statements, each in the file of its name.
pub mod OneOrNothing
pub mod OneWrong
pub mod Mends
pub mod TwoWrong
pub mod OneChange
pub mod ManyChanges
