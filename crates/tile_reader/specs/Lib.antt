-- To be believed: the names of a tile's layers, a tile in the words of its format, and the first fault of
-- other bytes.
pub mod Names
pub mod ShapeName
pub mod Format
pub mod FirstFault
pub mod Laws
-- The function that they determine, read field after field.
pub mod Message
pub mod Read
pub mod Value
pub mod Feature
pub mod Properties
pub mod Layer
pub mod Tile
-- What only the reader's own contracts and proofs use.
pub mod Lookup
pub mod Ids
pub mod Ranges
pub mod View
