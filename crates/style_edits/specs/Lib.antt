-- To be believed.
pub mod Objects
pub mod Layer
pub mod Layers
pub mod Edited
pub mod Causes
pub mod Faults
pub mod Places
pub mod Undone
-- What only contracts and proofs use.
pub mod ByPlace
pub mod Taking
pub mod Needs
