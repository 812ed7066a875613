-- Laws of a report.
pub mod Lines
pub mod Told
pub mod Theorems
