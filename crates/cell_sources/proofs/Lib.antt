pub mod SourcedLaws
pub mod RenewLaws
pub mod ValueExpressions
pub mod FilterExpressions
pub mod LayerProperties
pub mod CellsAlike
pub mod ReadWithoutGlobals
pub mod SameExpressions
mod FormedExpressions
pub mod UnsetItems
