-- To be believed.
pub mod Rounding
pub mod Number
pub mod NumberText
pub mod Decimal
pub mod ColorRange
-- Laws of these.
pub mod NumberGrammar
-- What only contracts of private functions, models and proofs use.
pub mod Saturation
