-- To be believed.
pub mod Words
pub mod Refusals
pub mod ValueRun
pub mod StyleFile
pub mod ValidateRun
pub mod MigrateRun
pub mod SimplifyRun
pub mod ShownRun
pub mod EvalRun
pub mod ReplayRun
pub mod TileRun
pub mod GenerateRun
pub mod Commands
pub mod Promises
pub mod ListedFaults
-- A law of these.
pub mod OneOutcome
-- What only contracts of private functions, models and proofs use.
pub mod WordsView
pub mod TileRunView
pub mod PreparedRun
