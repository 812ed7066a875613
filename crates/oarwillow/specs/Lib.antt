-- What the calls for C give, and that this determines what they give.
pub mod Calls
pub mod Determined
