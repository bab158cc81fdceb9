pub mod ExtentSteps
pub mod ExtentCounts
