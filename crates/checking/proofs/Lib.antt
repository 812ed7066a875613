-- Laws that belong to no one function.
pub mod Parity
pub mod Zeros
pub mod CheckLaws
pub mod LocateLaws
pub mod Determined
