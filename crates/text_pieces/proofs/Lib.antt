-- For the crates above.
pub mod PieceLaws
