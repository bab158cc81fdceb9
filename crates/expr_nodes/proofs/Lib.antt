mod RuleLaws
mod PromiseLaws
mod ScopeLaws
mod ResolveShape
mod ResolveMeaning
pub mod ResolveLaws
-- The evaluator.
pub mod BindingPlaces
pub mod SlotLaws
pub mod NodeLaws
pub mod Composing
pub mod ArgumentParts
pub mod BindingParts
pub mod BranchParts
pub mod BorrowedLaws
pub mod SumLaws
pub mod SearchLaws
pub mod BoxedLaws
pub mod FilledLaws
pub mod TurnLaws
