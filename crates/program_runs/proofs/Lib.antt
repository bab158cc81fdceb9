pub mod RunLaws
pub mod Going
pub mod Fronts
pub mod Asked
pub mod Saying
pub mod Counting
pub mod MayParse
pub mod Pieces
