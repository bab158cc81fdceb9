-- To be believed.
pub mod BareListing
-- What only contracts of private functions and proofs use.
pub mod Given
pub mod Costs
pub mod SeenLayer
