mod LineLaws
mod ScriptLaws
mod TileLaws
