pub mod AsciiTexts
pub mod SoundMembers
pub mod SoundTexts
pub mod SoundLiterals
pub mod SoundReading
pub mod SoundValues
pub mod SoundFilters
pub mod SoundDocuments
