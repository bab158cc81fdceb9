-- To be believed.
pub mod LegacyForms
-- What only contracts of private functions and proofs use.
pub mod Pooled
pub mod PoolSlots
