-- To be believed.
pub mod Data
pub mod View
pub mod ViewParts
pub mod Faults
pub mod Equality
pub mod Choices
pub mod Forms
pub mod ColorText
pub mod ValueText
pub mod JsonData
pub mod Changes
-- Laws of these.
pub mod EqualityLaws
-- What only contracts of private functions, models and proofs use.
pub mod DataCode
pub mod Falls
pub mod Keys
pub mod MergeSteps
pub mod DataSize
