-- What the loops that change cells are given, and what they leave.
pub mod Items
pub mod Owed
pub mod Steps
