pub mod Breaking
pub mod Buts
pub mod Bands
pub mod Found
pub mod Gathers
pub mod Tests
pub mod Wholes
