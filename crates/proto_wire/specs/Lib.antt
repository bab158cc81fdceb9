-- To be believed.
pub mod Varint
pub mod Message
pub mod View
-- Laws of these.
pub mod Laws
-- What only contracts of private functions, models and proofs use.
pub mod Reading
