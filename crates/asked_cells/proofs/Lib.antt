pub mod AskLaws
pub mod CellLaws
pub mod FeatureLaws
pub mod FilterLaws
pub mod MeantLaws
pub mod SceneLaws
pub mod SourceLaws
