pub mod OrderedLists
pub mod CellLaws
pub mod RowLists
pub mod Defaults
mod LegacyReads
pub mod FilledLayers
pub mod TableRows
