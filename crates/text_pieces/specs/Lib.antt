-- To be believed.
pub mod Pieces
pub mod Adding
