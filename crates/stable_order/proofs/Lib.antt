pub mod OneOrder
pub mod KeyOrder
pub mod Lawful
