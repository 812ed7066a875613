-- What must be believed: the rules of a shape, the parity equations, what a valid stripe is, and the theorems' statements.
pub mod Xor
pub mod Sum
pub mod Shape
pub mod Equations
pub mod Stripe
pub mod Presence
pub mod Candidate
pub mod Change
pub mod Theorems
pub mod Numbers
