pub mod Locating
