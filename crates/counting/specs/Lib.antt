-- What the contracts of this crate cite.
pub mod But
pub mod Counting
pub mod Gather
