-- To be believed.
pub mod Places
pub mod PlaceFacts
pub mod Linear
pub mod LinearLists
pub mod Warp
pub mod Items
-- What only contracts of private functions, models and proofs use.
pub mod Share
