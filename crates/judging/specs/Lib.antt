-- What is judged of a shelf image.
pub mod Shown
pub mod Judgements
pub mod Theorems
