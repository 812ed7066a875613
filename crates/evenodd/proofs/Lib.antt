-- Laws that belong to no one function.
pub mod Laid
pub mod RestoreLaws
pub mod RewriteLaws
pub mod ChangeLaws
pub mod ManyChanged
pub mod Shown
pub mod Determined
