pub mod SkipLaws
pub mod StartLaws
pub mod PathLaws
pub mod CountLaws
pub mod SpelledTexts
pub mod SpelledValues
pub mod SpelledPlaces
