mod FitLaws
mod MarkLaws
mod MarkedTermLaws
mod CheckedLaws
