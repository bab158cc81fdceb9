-- To be believed: the table of operators, what a tree reads as, and what holds of what was read.
pub mod Rows
pub mod Names
pub mod FaultName
pub mod Operators
pub mod Elements
pub mod BoundNames
pub mod Scopes
pub mod LabelLists
pub mod Parts
pub mod Standing
pub mod Reading
pub mod Term
pub mod TermView
pub mod ReadView
pub mod Mentioned
pub mod Stops
pub mod Chosen
pub mod ReadTerms
-- What only contracts of private functions, models and proofs use.
pub mod Slots
pub mod TextNumbers
pub mod LabelIndex
pub mod NameIndex
pub mod TermCode
pub mod Falls
pub mod TermSize
