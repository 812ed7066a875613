-- Laws that belong to no one function.
pub mod Standing
pub mod Digits
pub mod Laid
pub mod Formed
pub mod Entering
pub mod Verdicts
pub mod Copying
pub mod Filling
pub mod Determined
pub mod Example
