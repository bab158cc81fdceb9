pub mod ReadContents
