-- To be believed.
pub mod Parts
pub mod Numbers
