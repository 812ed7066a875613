-- What the contracts of this crate cite.
pub mod Restoring
pub mod Left
