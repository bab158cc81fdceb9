-- To be believed.
pub mod Ranks
pub mod GeneratedTile
pub mod GeneratedScript
pub mod Counted
-- What only contracts of private functions and proofs use.
pub mod Counting
