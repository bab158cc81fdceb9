-- To be believed.
pub mod Sections
pub mod SectionLists
pub mod ReadText
-- What only contracts of private functions and proofs use.
pub mod Reading
