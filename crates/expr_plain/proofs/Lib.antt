pub mod Evaluating
pub mod ArgumentLaws
pub mod BranchLaws
pub mod FrameLaws
pub mod NameLaws
pub mod BindingLaws
