pub mod MoveLaws
pub mod SetLaws
