-- What is told of a shelf image.
pub mod Lines
pub mod Reports
pub mod Theorems
