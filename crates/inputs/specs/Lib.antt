-- What is promised of the inputs: the rules of refusal and their orders, the shape check, and the tests that the calls share.
pub mod Rules
pub mod Shapes
pub mod Tests
pub mod Lists
pub mod Determined
