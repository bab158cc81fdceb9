pub mod Cuts
pub mod LineRuns
pub mod ImageReports
