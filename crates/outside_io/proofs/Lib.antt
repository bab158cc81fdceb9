pub mod StoredFiles
pub mod KnownBytes
