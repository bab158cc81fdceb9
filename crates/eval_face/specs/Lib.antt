-- To be believed.
pub mod World
pub mod Names
pub mod Meanings
pub mod Lookups
pub mod Decisions
pub mod Branches
pub mod Bindings
pub mod Sections
pub mod Rules
pub mod Meaning
pub mod Resolved
-- Laws of these.
pub mod Fitted
pub mod Agreement
pub mod JoinedContents
