-- To be believed.
pub mod LintLine
pub mod LineText
pub mod Diagnostics
pub mod DiagnosticLine
pub mod BrokenText
pub mod LintedStyle
-- Laws of these.
pub mod PlaceLaw
pub mod OneLint
-- What only contracts of private functions and proofs use.
pub mod Views
