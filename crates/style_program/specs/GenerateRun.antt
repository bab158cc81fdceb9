-- The run of `generate`: how much `replay` writes of a style, a tile and a script that are made from a number. Source:
-- own.
use Rattle.std.specs.Prelude.{ℕ, pos, List, codes, Bool, false}
use Rattle.decimal_json.specs.Tree.{Tree}
use Rattle.edit_session.specs.Opening.{cell_limit, tiles_fault}
use Rattle.edit_session.specs.SessionState.{opened}
use Rattle.generated_runs.specs.Counted.{counted}
use Rattle.generated_runs.specs.GeneratedScript.{generated_lines, generated_style}
use Rattle.generated_runs.specs.GeneratedTile.{generated_tiles}
use Rattle.program_runs.specs.Runs.{Run, parses}
use Rattle.script_runs.specs.ScriptRun.{lines_run}
use Rattle.style_program.specs.EvalRun.{opened_or_refused}
use Rattle.style_program.specs.ShownRun.{sound_or_broken}
use Rattle.style_rules.specs.Findings.{findings}

module _ (features : ℕ) (images scripts : List ℕ → Bool) (can_change : Bool) where
  -- the style, opened over the tile at zoom 0, answers the script
  abbrev pub answered_run : Tree → Run
  answered_run document =
      lines_run (generated_tiles features) scripts can_change 1 (opened cell_limit document (pos 0) images)
      false (generated_lines features)

  abbrev pub opened_run : Tree → Run
  opened_run document =
      opened_or_refused (tiles_fault cell_limit document (generated_tiles features) (pos 0))
      (counted features (answered_run document))

  -- As `replay`, with the counts of what is written in the place of it. No file is read.
  abbrev pub generate_run : Run
  generate_run = parses (codes "style") generated_style
      (λ document. sound_or_broken (findings document) (opened_run document))
