-- To be believed.
pub mod Parts
pub mod ColorNumber
pub mod ColorName
pub mod HexColor
pub mod RgbColor
pub mod HslColor
pub mod ColorOf
-- What only contracts of private functions, models and proofs use.
pub mod Views
