-- To be believed.
pub mod LayerContext
pub mod Rules
pub mod Values
pub mod Places
pub mod Findings
pub mod Reports
-- A law of these.
pub mod Levels
-- What contracts see of the program's values, and what only contracts of private functions and proofs use.
pub mod CodeView
pub mod LayerParts
pub mod Keys
pub mod FunctionFaults
pub mod LatePaths
