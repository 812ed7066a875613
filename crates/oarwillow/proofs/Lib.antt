-- Laws that belong to no one function.
pub mod Lengths
pub mod Determined
