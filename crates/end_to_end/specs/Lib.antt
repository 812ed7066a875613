-- What follows from the promises alone, from end to end.
pub mod OneOrNothing
pub mod OneWrong
pub mod Mends
pub mod TwoWrong
pub mod OneChange
pub mod ManyChanges
