pub mod Rows
pub mod Steps
pub mod Halves
pub mod Callers
