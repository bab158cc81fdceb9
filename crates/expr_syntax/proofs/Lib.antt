-- For callers: the measures of a recursion over terms, and the last place of a name.
pub mod Falls
pub mod LastPlaces
-- Laws.
pub mod NameLaws
pub mod ElementLaws
pub mod InputLaws
pub mod BindingLaws
pub mod LabelLaws
pub mod OperatorLaws
pub mod PartLaws
pub mod StopLaws
pub mod TextNumberLaws
pub mod NameIndexLaws
pub mod LabelIndexLaws
pub mod CountLaws
pub mod SoundParts
pub mod NamedOutputs
pub mod ReadTermLaws
