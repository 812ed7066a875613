-- What is promised of the presence map.
pub mod Absent
pub mod Truth
pub mod Tops
pub mod Rules
pub mod Maps
pub mod Determined
