pub mod FeatureNumbers
pub mod GeneratedRuns
mod TypedOutcome
pub mod Answered
pub mod AnsweredSteps
pub mod AtFirst
pub mod Kept
pub mod ListedFaults
pub mod ListingRuns
pub mod Moved
pub mod OneOutcome
pub mod ScriptRuns
pub mod ShownRuns
pub mod TileRuns
pub mod TileWords
