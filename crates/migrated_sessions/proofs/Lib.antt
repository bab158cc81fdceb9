pub mod SameCells
pub mod SameOpenings
