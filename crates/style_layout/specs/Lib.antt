-- To be believed.
pub mod Forms
pub mod Layers
pub mod Globals
pub mod SortKeys
pub mod Shown
pub mod StyleLayout
-- What clauses see of the program's values, and the words of private functions' clauses.
pub mod Tests
pub mod Outlines
pub mod CodeView
pub mod PlacedLayer
pub mod Walk
pub mod ReadValues
