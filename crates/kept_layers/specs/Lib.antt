-- To be believed.
pub mod KeptLayers
pub mod EditedKept
-- What holds of kept cells, and what clauses see of the program's values.
pub mod Holding
pub mod View
pub mod Changes
-- What only contracts of private functions and proofs use.
pub mod Turning
pub mod Tidying
pub mod LayerListing
-- What `follow` asks and gives.
pub mod Following
