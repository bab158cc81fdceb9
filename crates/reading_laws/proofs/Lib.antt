pub mod ArgumentPlaces
pub mod LaidOut
pub mod ReadArguments
pub mod GlobalUses
