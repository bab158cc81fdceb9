pub mod ItemCounts
pub mod NameIndexes
pub mod FoundRows
pub mod Tables
pub mod Stays
