-- To be believed.
pub mod Places
