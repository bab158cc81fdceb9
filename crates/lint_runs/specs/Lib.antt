-- To be believed.
pub mod LintRun
-- What only contracts of private functions and proofs use.
pub mod Counting
pub mod Views
