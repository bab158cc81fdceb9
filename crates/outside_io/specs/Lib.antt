-- To be believed.
pub mod Counts
pub mod Reading
pub mod ReadAnswers
pub mod Writing
pub mod Contents
pub mod FilesState
pub mod SinkState
pub mod HostState
-- What only contracts of private functions, models and proofs use.
pub mod WritingLaws
