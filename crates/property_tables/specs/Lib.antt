-- To be believed.
pub mod LayerTypes
pub mod Rows
pub mod RowView
pub mod Defaults
pub mod Literals
pub mod Fitting
-- Laws of these.
pub mod TableLaws
pub mod Stays
-- What only contracts of private functions, models and proofs use.
pub mod NameIndex
