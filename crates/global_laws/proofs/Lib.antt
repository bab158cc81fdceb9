pub mod SameTerms
pub mod GlobalForms
pub mod SteadyReading
