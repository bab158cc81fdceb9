-- What only contracts of private functions, models and proofs use.
pub mod Pooled
pub mod Flattened
pub mod Blocks
