-- To be believed.
pub mod Pending
