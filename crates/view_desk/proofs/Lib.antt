pub mod LineKinds
pub mod DeskLineRuns
pub mod DeskLinesRead
pub mod DeskReports
pub mod Pieces
pub mod ViewPlaces
pub mod ViewsDone
pub mod ViewsSound
