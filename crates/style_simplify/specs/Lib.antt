-- To be believed.
pub mod SimpleElements
pub mod Literals
pub mod Folding
pub mod ShorterNodes
pub mod AskedBindings
pub mod Choices
pub mod Simple
pub mod SimplifiedStyle
-- What only contracts of private functions and proofs use.
pub mod View
pub mod NodeView
