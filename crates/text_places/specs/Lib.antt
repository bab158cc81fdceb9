-- To be believed.
pub mod Skipping
pub mod ValuePlace
pub mod LineColumn
pub mod TextPlace
-- Law of these.
pub mod PlaceLaw
-- What only contracts of private functions, models and proofs use.
pub mod Starts
pub mod Counting
