pub mod Lanes
pub mod Bench
pub mod Totals
pub mod Steps
