-- What only contracts of private functions and proofs use.
pub mod FoundAfter
