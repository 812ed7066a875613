-- The shelf image, what its readers promise, and that format and promises determine what is read.
pub mod Format
pub mod Example
pub mod Reads
pub mod Entries
pub mod Determined
