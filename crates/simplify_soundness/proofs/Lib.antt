pub mod KeptChecks
pub mod SimplifiedValues
pub mod SimplifiedDocuments
