-- To be believed.
pub mod DeskLines
pub mod DeskState
pub mod DeskRun
pub mod View
