-- What only contracts of private functions and proofs use.
pub mod Terms
pub mod Slots
pub mod Frames
pub mod Evaluates
