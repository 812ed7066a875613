pub mod Fillings
pub mod Sweeps
