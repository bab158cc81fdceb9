-- To be believed: how a kind fits a want, the kind and the faults of each operator, and of an expression
-- under a want.
pub mod FaultName
pub mod Fits
pub mod Literals
pub mod Own
pub mod Assertions
pub mod Sequences
pub mod Comparing
pub mod Ramping
pub mod Arithmetics
pub mod OwnTable
pub mod ArgumentPaths
pub mod Typing
pub mod NodeKinds
pub mod Visits
pub mod Allowed
pub mod Checked
pub mod Judged
pub mod JudgedFacts
-- What only contracts of private functions, models and proofs use.
pub mod LiteralView
pub mod CommonKinds
pub mod ScopeView
pub mod TypedView
pub mod MisplacedReads
pub mod WalkView
pub mod JudgedCode
