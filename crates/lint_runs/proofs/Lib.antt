pub mod LineCounts
pub mod FileLines
pub mod Turns
