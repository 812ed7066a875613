-- Text: digits, numbers, and what it is to write a piece of text at a place.
pub mod Text
