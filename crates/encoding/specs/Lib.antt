pub mod Encoded
pub mod Sums
