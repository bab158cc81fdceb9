pub mod Sets
pub mod KindLaws
pub mod Outcomes
pub mod Arguments
mod Nodes
mod Shapes
mod ValueLaws
mod NumberLaws
mod SequenceLaws
mod SectionLaws
mod DecidingLaws
pub mod BranchLaws
mod WarpLaws
mod BetweenLaws
mod RampLaws
pub mod NameLaws
pub mod TermLaws
pub mod PlaceLaws
mod CheckLaws
