-- Laws that belong to no one function.
pub mod Shown
pub mod Blank
pub mod Judged
pub mod Sizes
pub mod Theorems
