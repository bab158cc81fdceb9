mod ColorTexts
mod JsonTrees
pub mod Options
mod SectionTrees
