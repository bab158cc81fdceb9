pub mod Numbers
pub mod VarintLaws
pub mod MessageLaws
pub mod Walks
