-- To be believed.
pub mod Moved
