-- To be believed.
pub mod Keys
pub mod Index
-- What only contracts of private functions, models and proofs use.
pub mod Ascending
pub mod Hash
pub mod Places
pub mod Table
