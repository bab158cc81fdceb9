pub mod ObjectLaws
pub mod ListLaws
pub mod PlaceLaws
pub mod EditLaws
pub mod DocumentLaws
