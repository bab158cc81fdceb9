pub mod Comparing
pub mod Times
pub mod Chains
pub mod Turns
pub mod Kept
pub mod SeenNodes
pub mod Holding
