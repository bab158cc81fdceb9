-- What is read, as the lines on standard error name it.
use Rattle.std.specs.Prelude.{ℕ, List, [], codes}
use Rattle.program_runs.specs.declared.subject.Subject.{Subject}
use Rattle.program_runs.specs.declared.subject.Subject.TheVariants.{Expression, Style, Script, Tile}
use Rattle.program_runs.specs.Refusals.{tile_text, tile_number}

abbrev pub subject_text : Subject → List ℕ
subject_text Expression = codes "expr"
subject_text Style = codes "style"
subject_text Script = codes "script"
subject_text (Tile source n) = tile_text source.now

-- which of several it is, at the end of the line
abbrev pub subject_number : Subject → List ℕ
subject_number Expression = []
subject_number Style = []
subject_number Script = []
subject_number (Tile source n) = tile_number n
