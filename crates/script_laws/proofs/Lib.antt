mod CellLaws
mod EditLaws
mod KeptLaws
mod LineLaws
mod ListLaws
mod RearrangingLaws
