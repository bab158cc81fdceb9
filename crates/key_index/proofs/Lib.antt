pub mod Keys
pub mod AscendingKeys
pub mod Slots
pub mod Tables
pub mod Taken
