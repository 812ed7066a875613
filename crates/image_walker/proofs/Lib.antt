-- Laws that belong to no one function.
pub mod Finding
pub mod Stepping
pub mod Determined
pub mod Unread
