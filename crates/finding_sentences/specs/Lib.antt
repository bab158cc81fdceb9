-- To be believed.
pub mod Words
pub mod Pairs
pub mod Wanted
pub mod Subject
pub mod LiteralSentence
pub mod ExpressionSentence
pub mod FunctionSentence
pub mod FilterSentence
pub mod MaySentence
pub mod TextSentence
pub mod Sentence
-- What only contracts of private functions and proofs use.
pub mod Views
