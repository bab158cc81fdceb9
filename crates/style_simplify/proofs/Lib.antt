pub mod NodeLaws
pub mod ElementLaws
pub mod StepLaws
pub mod LetLaws
pub mod PieceLaws
