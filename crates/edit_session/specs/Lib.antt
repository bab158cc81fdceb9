-- To be believed.
pub mod SessionState
pub mod Ranges
pub mod Opening
pub mod Applied
pub mod OpenViews
pub mod View
-- What only contracts of private functions and proofs use.
pub mod PreparedLayers
pub mod LayerMarks
pub mod PlainView
pub mod Setting
pub mod Answering
