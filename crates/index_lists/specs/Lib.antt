-- To be believed.
pub mod SlotLists
pub mod Holds
-- What only contracts of private functions, models and proofs use.
pub mod Nodes
pub mod Rounds
