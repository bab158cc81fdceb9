-- What only contracts of private functions, models and proofs use.
pub mod Indexed
