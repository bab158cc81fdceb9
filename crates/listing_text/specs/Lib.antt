-- To be believed.
pub mod Layout
pub mod Listing
-- What only contracts of private functions, models and proofs use.
pub mod Parts
