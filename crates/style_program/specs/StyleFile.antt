-- The file of a style. Source: own.
use Rattle.std.specs.Prelude.{ℕ, List, [], codes}
use Rattle.decimal_json.specs.Tree.{Tree}
use Rattle.program_runs.specs.Parts.{json_part}
use Rattle.program_runs.specs.Runs.{Run}

-- in bytes
abbrev pub style_limit : ℕ
style_limit = 4194304

-- it is read as JSON, and the run goes on with that
abbrev pub style_part : (name : List ℕ) → (Tree → Run) → Run
style_part name after = json_part (codes "style") [] name style_limit after
