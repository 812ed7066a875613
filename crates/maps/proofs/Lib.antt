-- Laws that belong to no one function.
pub mod Absent
pub mod Filling
pub mod Present
pub mod Truth
pub mod Presence
pub mod Determined
