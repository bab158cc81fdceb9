pub mod LayersThere
pub mod NothingKept
pub mod ViewEdits
pub mod Projections
