-- To be believed.
pub mod Evaluated
pub mod Whole
pub mod Conversions
pub mod Arithmetic
pub mod Comparisons
pub mod Sequences
pub mod Texts
pub mod Colors
pub mod Ramps
