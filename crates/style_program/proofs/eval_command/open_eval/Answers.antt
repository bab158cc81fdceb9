use Rattle.std.proofs.Common.{refl}
use Rattle.program_runs.proofs.Going.{at_residual, halts_later}
use Rattle.program_runs.specs.Progress.{HaltsAt}
use Rattle.style_program.specs.EvalRun.{eval_run, listed_run}
use Rattle.style_program.specs.ShownRun.{load_part}
use Rattle.style_program.specs.TileRunView.{shown_seen}
use Rattle.style_program.specs.WordsView.{eval_words}
use Rattle.style_program.proofs.ListingRuns.{comes_to_listing}
use Rattle.style_program.proofs.eval_command.open_eval.Goals as goal

pub returns-clause-on : goal.returns-clause-on
returns-clause-on g c = λ images scripts.
    comes_to_listing (g.F.Files.told c.args.files.now) (eval_words c.args.request.now) images scripts
    (shown_seen c.in_ok-shown.shown) _ _ c.in_ok-shown.ensures.on
    c.open_shown.result c.open_shown.ensures.tiles c.open_shown.ensures.opened c.open_shown.ensures.none

-- the style could not be opened
pub returns-clause-halt : goal.returns-clause-halt
returns-clause-halt g c =
    let files = g.F.Files.told c.args.files.now in
    let w = eval_words c.args.request.now in
    λ images scripts.
    halts_later files (load_part w) _ _ (shown_seen c.in_ok-shown.shown) c.in_ok-shown.ensures.on files refl
    (listed_run w images scripts) _ _ _ _ _ _ _ c.open_shown.result c.in_ok-shown.ensures.failed
    (c.open_shown.ensures.halt files _ _ _ _)

pub returns-in_err-shown-clause-halt : goal.returns-in_err-shown-clause-halt
returns-in_err-shown-clause-halt g c =
    let w = eval_words c.args.request.now in λ images scripts.
    at_residual (λ h. HaltsAt (g.F.Files.told c.args.files.now) (eval_run w images scripts) _ _ _ _ _ _ h)
    c.in_err-shown.field-0.0 c.from_residual.result c.from_residual.ensures.1
    (c.in_err-shown.ensures.halt (listed_run w images scripts))
