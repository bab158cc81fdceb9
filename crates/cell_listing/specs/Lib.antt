-- To be believed.
pub mod Listable
-- What only contracts of private functions and proofs use.
pub mod KeptListing
pub mod SeenLayers
