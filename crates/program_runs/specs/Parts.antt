-- Parts of runs. A part takes what the run goes on with.
use Rattle.std.specs.Prelude.{ℕ, List}
use Rattle.decimal_json.specs.Tree.{Tree}
use Rattle.program_runs.specs.Refusals.{too_long}
use Rattle.program_runs.specs.Runs.{Run, reads, parses}

-- a file that is a JSON text
abbrev pub json_part : (what which name : List ℕ) (limit : ℕ) → (Tree → Run) → Run
json_part what which name limit after = reads (too_long what which) name limit (λ bytes. parses what bytes after)
