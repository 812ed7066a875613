pub mod Lanes
pub mod Summing
pub mod Fitting
pub mod Confirmed
