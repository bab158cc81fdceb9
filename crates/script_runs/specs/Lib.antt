-- To be believed.
pub mod ScriptLines
pub mod AnswerTexts
pub mod ScriptRun
pub mod ImageReports
-- What only contracts of functions and proofs use.
pub mod LineAnswers
