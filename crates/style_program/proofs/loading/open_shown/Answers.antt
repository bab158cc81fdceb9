use Rattle.std.proofs.Common.{◌≡◌, ℕ, List, Bool, refl, subst}
use Rattle.std.specs.Prelude.{option_map}
use Rattle.std.specs.Result.{result_err}
use Rattle.edit_session.specs.Opening.{tiles_fault}
use Rattle.edit_session.specs.SessionState.{opened}
use Rattle.edit_session.specs.View.{fault_seen, session_state, tiles_of, IsSoundSession}
use Rattle.program_runs.specs.declared.halt.RunHalt.TheVariants.{Stopped}
use Rattle.program_runs.specs.declared.halt.RunStop.TheVariants.{NoMemory}
use Rattle.program_runs.proofs.Asked.{none_asked}
use Rattle.program_runs.proofs.Going.{at_residual}
use Rattle.program_runs.specs.Progress.{HaltsAt}
use Rattle.style_program.specs.EvalRun.{opened_or_refused}
use Rattle.style_program.specs.TileRunView.{shown_seen}
use Rattle.style_program.proofs.AtFirst.{of_ok}
use Rattle.style_program.proofs.loading.open_shown.Goals as goal

pub returns-in-Ok-clause-sound : goal.returns-in-Ok-clause-sound
returns-in-Ok-clause-sound c = λ images scripts.
    of_ok (λ session. IsSoundSession session images scripts) c.in_ok-session.field-0 c.in-Ok.session c.in-Ok.is (c.in_ok-session.ensures.sound images scripts)

pub returns-in-Ok-clause-tiles : goal.returns-in-Ok-clause-tiles
returns-in-Ok-clause-tiles c =
    of_ok (λ session. tiles_of session ≡ (shown_seen c.args.loaded).1)
    c.in_ok-session.field-0 c.in-Ok.session c.in-Ok.is c.in_ok-session.ensures.tiles

pub returns-in-Ok-clause-opened : goal.returns-in-Ok-clause-opened
returns-in-Ok-clause-opened c =
    of_ok (λ session. (h : List ℕ → Bool)
    → session_state session h ≡ opened c.args.limit (shown_seen c.args.loaded).0 c.args.zoom h)
    c.in_ok-session.field-0 c.in-Ok.session c.in-Ok.is c.in_ok-session.ensures.opened

pub returns-in-Ok-clause-none : goal.returns-in-Ok-clause-none
returns-in-Ok-clause-none c =
    subst (λ r. option_map fault_seen (result_err r)
    ≡ tiles_fault c.args.limit (shown_seen c.args.loaded).0 (shown_seen c.args.loaded).1 c.args.zoom)
    c.in-Ok.is c.in_ok-session.ensures.fault

-- an allocation failed
pub returns-in_err-session-clause-halt : goal.returns-in_err-session-clause-halt
returns-in_err-session-clause-halt c =
    let fault = tiles_fault c.args.limit (shown_seen c.args.loaded).0 (shown_seen c.args.loaded).1 c.args.zoom in
    λ files count failed asked next. at_residual (λ h. HaltsAt files (opened_or_refused fault next) count count failed failed asked asked h) (Stopped NoMemory)
    c.from_residual.result c.from_residual.ensures.1 ((refl, refl), none_asked files (opened_or_refused fault next) asked)
