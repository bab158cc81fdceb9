-- To be believed.
pub mod CellExpressions
pub mod Sourced
pub mod CellLaws
-- What only contracts of private functions and proofs use.
pub mod Views
