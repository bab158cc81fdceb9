-- The run of `eval`: what a style shows over tiles, or why it shows nothing. Source: own.
use Rattle.std.specs.Prelude.{ℕ, List, Bool, Option, Some, None}
use Rattle.edit_script.specs.Edit.{list}
use Rattle.edit_session.specs.Applied.{least_steps, listing_of, most_steps}
use Rattle.edit_session.specs.Opening.{cell_limit, Fault, tiles_fault}
use Rattle.edit_session.specs.SessionState.{SessionState, opened}
use Rattle.program_runs.specs.declared.status.Ending.TheVariants.{Fine}
use Rattle.program_runs.specs.Outcome.{RunOutcome, said}
use Rattle.program_runs.specs.Runs.{Run, ends, counts}
use Rattle.style_program.specs.Refusals.{not_opened}
use Rattle.style_program.specs.ShownRun.{LoadedStyle, load_part}
use Rattle.style_program.specs.Words.{EvalWords}

-- a style that cannot be opened over tiles is refused
abbrev pub opened_or_refused : Option Fault → Run → Run
opened_or_refused None next = next
opened_or_refused (Some fault) next = ends (not_opened fault)

module _ (w : EvalWords) (images scripts : List ℕ → Bool) where
  -- what is shown before any edit
  abbrev pub shown_at_first : LoadedStyle → SessionState
  shown_at_first shown = opened cell_limit shown.0 w.zoom images

  abbrev pub listed_outcome : LoadedStyle → RunOutcome
  listed_outcome shown = said (listing_of shown.1 scripts (shown_at_first shown)) Fine

  -- the steps that its evaluations count: at least so many, and at most so many
  abbrev pub listed_least : LoadedStyle → ℕ
  listed_least shown = least_steps shown.1 scripts (shown_at_first shown) list

  abbrev pub listed_most : LoadedStyle → ℕ
  listed_most shown = most_steps shown.1 scripts (shown_at_first shown) list

  -- the listing of the style
  abbrev pub listed_run : LoadedStyle → Run
  listed_run shown =
      opened_or_refused (tiles_fault cell_limit shown.0 shown.1 w.zoom)
      (counts (listed_least shown) (listed_most shown) (ends (listed_outcome shown)))

  abbrev pub eval_run : Run
  eval_run = load_part w listed_run
