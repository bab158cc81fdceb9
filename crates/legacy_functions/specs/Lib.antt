-- To be believed.
pub mod Tokens
pub mod Function
pub mod Form
pub mod Meaning
pub mod ToExpression
pub mod AskedParts
pub mod Parts
pub mod View
-- What only contracts of private functions use.
pub mod TokenSize
pub mod Stops
pub mod Zooms
pub mod CategoryIndex
pub mod PlacedView
pub mod FoundView
pub mod GroupView
pub mod FunctionView
pub mod AllNames
pub mod Names
