-- What the writer of an image promises, that the promise determines what is written, and the round trips with the reader.
pub mod Writes
pub mod Pieces
pub mod Determined
pub mod RoundTrips
