-- For callers: arguments and what decides, by their meanings.
pub mod Halts
pub mod ArgumentLaws
pub mod InputLaws
-- Laws.
pub mod RuleLaws
