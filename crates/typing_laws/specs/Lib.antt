-- To be believed.
pub mod OfKind
pub mod TypingLaws
