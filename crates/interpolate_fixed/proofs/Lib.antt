pub mod Steps
pub mod Counts
pub mod Lists
pub mod MovedInputs
pub mod LineLaws
