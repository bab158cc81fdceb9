-- To be believed.
pub mod Outcome
pub mod Ending
pub mod Refusals
pub mod Runs
pub mod Parts
pub mod FailedReads
pub mod Written
-- A law of these.
pub mod Laws
-- What only contracts of functions and proofs use.
pub mod Subjects
pub mod Progress
