-- To be believed.
pub mod Migrated
-- What only contracts of private functions and proofs use.
pub mod Mapped
pub mod LegacyValues
