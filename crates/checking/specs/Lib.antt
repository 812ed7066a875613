-- What each call promises, and that this determines its answer.
pub mod Checks
pub mod Locates
pub mod Determined
