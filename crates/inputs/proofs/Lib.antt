-- Laws that belong to no one function.
pub mod ShapeLaws
pub mod Stripe
pub mod Tests
pub mod CellLists
pub mod Determined
