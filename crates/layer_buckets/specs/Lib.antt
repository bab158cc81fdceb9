-- To be believed: which cells a cause names.
pub mod Cells
-- What only contracts of private functions and proofs use.
pub mod Outcomes
pub mod KeptSlots
pub mod Listing
pub mod Keeping
pub mod LaidOut
pub mod Drops
pub mod Growing
pub mod Sources
pub mod Slotted
pub mod Seen
pub mod Lending
