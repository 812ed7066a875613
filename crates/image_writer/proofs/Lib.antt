-- Laws that belong to no one function.
pub mod Joining
pub mod Verdicts
pub mod Determined
pub mod RoundTrips
