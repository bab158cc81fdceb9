-- To be believed.
pub mod LayerTypes
pub mod Forms
