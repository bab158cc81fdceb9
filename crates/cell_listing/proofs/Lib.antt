pub mod OrderLaws
pub mod CellLaws
pub mod ValueLaws
pub mod FeatureLaws
pub mod ListingLaws
