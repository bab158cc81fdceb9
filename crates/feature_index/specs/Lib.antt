-- To be believed.
pub mod Ids
pub mod Indexes
