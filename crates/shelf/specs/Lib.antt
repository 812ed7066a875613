-- What the program's reading promises, and what it tells.
pub mod Reading
pub mod Telling
