pub mod ChainLaws
pub mod IndexLaws
