-- Laws of written text.
pub mod Writing
