-- What is promised of refusals: their numbers, and which one a list of rules gives.
pub mod Refusals
