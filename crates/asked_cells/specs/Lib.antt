-- To be believed.
pub mod Expressions
pub mod Asked
pub mod Counted
pub mod Asking
-- What clauses see of the program's values.
pub mod SeenCells
