-- For callers: what is at a key, what a value's data gives back, and the measures of a recursion.
pub mod KeyLaws
pub mod ViewLaws
pub mod Falls
-- What models and laws use.
pub mod ChangeLaws
pub mod Keys
pub mod IndexSteps
pub mod JsonKeys
pub mod Removing
pub mod Replacing
pub mod Merging
pub mod Lengths
pub mod JsonSteps
pub mod Ascii
pub mod Quoted
pub mod ColorSteps
pub mod EqualityLaws
