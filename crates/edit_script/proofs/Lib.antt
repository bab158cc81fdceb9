pub mod Elements
pub mod LinesRead
pub mod TreesRead
