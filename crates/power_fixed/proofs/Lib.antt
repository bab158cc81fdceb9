pub mod NewtonSteps
pub mod Squares
pub mod WholePowers
pub mod PartPowers
pub mod FixedBases
