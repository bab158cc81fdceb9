-- What only contracts and proofs of the evaluators use.
pub mod RuleParts
pub mod ProgramRules
pub mod Inputs
pub mod ValueStack
pub mod OpenSection
