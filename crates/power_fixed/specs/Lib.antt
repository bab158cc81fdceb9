pub mod Root
pub mod Power
