-- To be believed.
pub mod Extents
pub mod TileListing
-- Law of these.
pub mod ExtentLaw
-- What only contracts of private functions, models and proofs use.
pub mod ExtentSteps
