-- To be believed: nodes, what they give, how an expression becomes one, and what an evaluator gives.
pub mod Node
pub mod Outcome
pub mod Limits
pub mod Resolving
pub mod Marks
pub mod Resolved
pub mod Evaluators
-- What only contracts of private functions, models and proofs use.
pub mod NodeCode
pub mod NodeForms
pub mod Searched
pub mod Boxed
pub mod MovedInput
pub mod Slots
pub mod Filled
pub mod EvaluatesNode
