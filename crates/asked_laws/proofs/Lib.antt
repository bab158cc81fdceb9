pub mod LayerCells
pub mod ListingCells
