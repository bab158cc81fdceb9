pub mod LineLaws
pub mod Ends
pub mod PlaceLaws
pub mod OneLint
