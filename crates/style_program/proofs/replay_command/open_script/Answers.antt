use Rattle.edit_session.specs.View.{session_state, tiles_of}
use Rattle.program_runs.proofs.Going.{at_residual}
use Rattle.program_runs.specs.Progress.{HaltsAt}
use Rattle.program_runs.specs.Runs.{Run}
use Rattle.style_program.specs.ReplayRun.{answered_by, limit_of, script_kind_run, script_part, edited_run}
use Rattle.style_program.specs.ShownRun.{LoadedStyle}
use Rattle.style_program.specs.TileRunView.{shown_seen}
use Rattle.style_program.specs.WordsView.{script_words}
use Rattle.style_program.proofs.ScriptRuns.{script_comes, script_halts, opening_halts}
use Rattle.style_program.proofs.replay_command.open_script.Goals as goal

pub returns-clause-sound : goal.returns-clause-sound
returns-clause-sound g c = λ images scripts. c.in_ok-session.ensures.sound images scripts

pub returns-clause-on : goal.returns-clause-on
returns-clause-on g c =
    let files = g.F.Files.told c.args.files.now in
    let kind = c.args.request.now.kind in
    let w = script_words c.args.request.now in
    λ images scripts can_change.
    script_comes files (limit_of kind) w images (answered_by kind scripts can_change) (shown_seen c.in_ok-shown.shown) _ _ c.in_ok-shown.ensures.on
    (g.F.Files.told c.read_shown.new.files) c.read_shown.ensures.told _ c.in_ok-script.script.items c.in_ok-script.ensures.on
    (session_state c.in_ok-session.session images) (tiles_of c.in_ok-session.session)
    (rw c.limit_of.ensures.limit at c.in_ok-session.ensures.none) (rw c.limit_of.ensures.limit at c.in_ok-session.ensures.opened images) c.in_ok-session.ensures.tiles

pub returns-in_err-shown-clause-halt : goal.returns-in_err-shown-clause-halt
returns-in_err-shown-clause-halt g c =
    let kind = c.args.request.now.kind in
    let w = script_words c.args.request.now in λ images scripts can_change.
    let after : LoadedStyle → Run = λ shown. script_part w.script (edited_run (limit_of kind) w images (answered_by kind scripts can_change) shown) in
    at_residual (λ h. HaltsAt (g.F.Files.told c.args.files.now) (script_kind_run kind w images scripts can_change) _ _ _ _ _ _ h)
    c.in_err-shown.field-0.0 c.from_residual.result c.from_residual.ensures.1 (c.in_err-shown.ensures.halt after)

pub returns-in_err-script-clause-halt : goal.returns-in_err-script-clause-halt
returns-in_err-script-clause-halt g c =
    let files = g.F.Files.told c.args.files.now in
    let kind = c.args.request.now.kind in
    let w = script_words c.args.request.now in λ images scripts can_change.
    at_residual (λ h. HaltsAt files (script_kind_run kind w images scripts can_change) _ _ _ _ _ _ h)
    c.in_err-script.field-0.0 c.from_residual-in_err-script.result c.from_residual-in_err-script.ensures.1
    (script_halts files (limit_of kind) w images (answered_by kind scripts can_change) (shown_seen c.in_ok-shown.shown) _ _ c.in_ok-shown.ensures.on
    (g.F.Files.told c.read_shown.new.files) c.read_shown.ensures.told _ _ _ _ _ _ _ c.in_err-script.field-0.0 c.in_ok-shown.ensures.failed c.in_err-script.ensures.halt)

pub returns-in_err-session-clause-halt : goal.returns-in_err-session-clause-halt
returns-in_err-session-clause-halt g c =
    let files = g.F.Files.told c.args.files.now in
    let kind = c.args.request.now.kind in
    let w = script_words c.args.request.now in λ images scripts can_change.
    at_residual (λ h. HaltsAt files (script_kind_run kind w images scripts can_change) _ _ _ _ _ _ h)
    c.in_err-session.field-0.0 c.from_residual-in_err-session.result c.from_residual-in_err-session.ensures.1
    (opening_halts files (limit_of kind) w images (answered_by kind scripts can_change) (shown_seen c.in_ok-shown.shown) _ _ c.in_ok-shown.ensures.on
    (g.F.Files.told c.read_shown.new.files) c.read_shown.ensures.told _ _ _ _ _ _ _ c.in_ok-script.script.items c.in_err-session.field-0.0
    c.in_ok-shown.ensures.failed c.in_ok-script.ensures.failed c.in_ok-script.ensures.on (rw c.limit_of.ensures.limit at c.in_err-session.ensures.halt files _ _ _ _))
