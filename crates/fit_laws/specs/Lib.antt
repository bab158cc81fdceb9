-- To be believed.
pub mod MarkedNodes
