pub mod MappedLaws
pub mod KeptValues
