-- To be believed.
pub mod Features
pub mod Members
