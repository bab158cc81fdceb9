pub mod Appending
pub mod TreeLaws
pub mod PairLaws
pub mod TypingLaws
