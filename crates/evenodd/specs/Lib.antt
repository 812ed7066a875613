-- What each call promises, that this determines what it gives, and what follows from all promises together.
pub mod Encodes
pub mod Fills
pub mod Restores
pub mod Rewrites
pub mod Changes
pub mod ChangesAll
pub mod Shows
pub mod Determined
