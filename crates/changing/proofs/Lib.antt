pub mod Changed
pub mod Items
pub mod Owed
