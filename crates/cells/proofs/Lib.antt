pub mod Parts
pub mod Puts
pub mod Tells
pub mod Exchanges
pub mod Blocks
