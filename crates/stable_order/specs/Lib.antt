-- To be believed.
pub mod InOrder
pub mod Keys
-- Laws of these.
pub mod Laws
