use Rattle.std.proofs.Common.{◌≡◌, ◌∙◌, Bool, ap, ap₂, subst, arith, ℕ, List, map}
use Rattle.std.specs.Prelude.{None, option_map, IfOk, OnErr}
use Rattle.std.specs.Result.{result_err}
use Rattle.outside_io.specs.WritingLaws.{at_error}
use Rattle.decimal_json.specs.View.{tree_of}
use Rattle.edit_session.specs.Opening.{cell_limit, tiles_fault}
use Rattle.edit_session.specs.SessionState.{opened}
use Rattle.edit_session.specs.View.{fault_seen, session_state, tiles_of, IsSoundSession}
use Rattle.program_runs.proofs.Asked.{none_asked}
use Rattle.program_runs.proofs.Counting.{no_steps}
use Rattle.program_runs.specs.Progress.{IsAnswered}
use Rattle.program_runs.specs.Written.{StepsAreDue}
use Rattle.style_layout.specs.CodeView.{tile_seen}
use Rattle.style_program.specs.GenerateRun.{opened_run}
use Rattle.style_program.proofs.AtFirst.{of_ok, refused_at_first}
use Rattle.style_program.proofs.GeneratedRuns.{opened_is}
use Rattle.style_program.proofs.generate_command.answer_opened.Goals as goal

pub answer_counted-requires : goal.answer_counted-requires
answer_counted-requires g c =
    of_ok (λ session. IsSoundSession session _ _) c.in_ok-session.field-0 c.in-Ok.session c.in-Ok.is (c.in_ok-session.ensures.sound _ _)

pub returns-in-Ok-clause-answer : goal.returns-in-Ok-clause-answer
returns-in-Ok-clause-answer g c =
    let images = (goal.HostOp-dyn g c.args.images.now).test c.args.images.now.1 in
    let can_change = (goal.HostOp-dyn g c.args.images.now).changes c.args.images.now.1 in
    let scripts = (goal.HostOp-dyn g c.args.scripts.now).test c.args.scripts.now.1 in
    let document = tree_of c.args.style in
    let over = of_ok (λ session. tiles_of session ≡ map tile_seen c.in_ok-tiles.tiles.items) c.in_ok-session.field-0 c.in-Ok.session c.in-Ok.is c.in_ok-session.ensures.tiles in
    let opened_so = of_ok (λ session. (h : List ℕ → Bool) → session_state session h ≡ opened cell_limit document c.zero.result h) c.in_ok-session.field-0 c.in-Ok.session c.in-Ok.is c.in_ok-session.ensures.opened images in
    let none : None ≡ tiles_fault cell_limit document (map tile_seen c.in_ok-tiles.tiles.items) c.zero.result =
    subst (λ r. option_map fault_seen (result_err r) ≡ tiles_fault cell_limit document (map tile_seen c.in_ok-tiles.tiles.items) c.zero.result) c.in-Ok.is c.in_ok-session.ensures.fault in
    let run = opened_is c.args.features images scripts can_change document (session_state c.in-Ok.session images) (tiles_of c.in-Ok.session) (over ∙ c.in_ok-tiles.ensures)
    (none ∙ ap₂ (λ ts zoom. tiles_fault cell_limit document ts zoom) c.in_ok-tiles.ensures c.zero.ensures)
    (opened_so ∙ ap (λ zoom. opened cell_limit document zoom images) c.zero.ensures) in
    λ files asked. subst (λ r. IfOk c.answer_counted.result (IsAnswered files r asked asked c.args.steps.now c.answer_counted.new.steps)) run (c.answer_counted.ensures.answer files asked)

pub returns-in-Ok-clause-due : goal.returns-in-Ok-clause-due
returns-in-Ok-clause-due g c =
    let images = (goal.HostOp-dyn g c.args.images.now).test c.args.images.now.1 in
    let can_change = (goal.HostOp-dyn g c.args.images.now).changes c.args.images.now.1 in
    let scripts = (goal.HostOp-dyn g c.args.scripts.now).test c.args.scripts.now.1 in
    let document = tree_of c.args.style in
    let over = of_ok (λ session. tiles_of session ≡ map tile_seen c.in_ok-tiles.tiles.items) c.in_ok-session.field-0 c.in-Ok.session c.in-Ok.is c.in_ok-session.ensures.tiles in
    let opened_so = of_ok (λ session. (h : List ℕ → Bool) → session_state session h ≡ opened cell_limit document c.zero.result h) c.in_ok-session.field-0 c.in-Ok.session c.in-Ok.is c.in_ok-session.ensures.opened images in
    let none : None ≡ tiles_fault cell_limit document (map tile_seen c.in_ok-tiles.tiles.items) c.zero.result =
    subst (λ r. option_map fault_seen (result_err r) ≡ tiles_fault cell_limit document (map tile_seen c.in_ok-tiles.tiles.items) c.zero.result) c.in-Ok.is c.in_ok-session.ensures.fault in
    let run = opened_is c.args.features images scripts can_change document (session_state c.in-Ok.session images) (tiles_of c.in-Ok.session) (over ∙ c.in_ok-tiles.ensures)
    (none ∙ ap₂ (λ ts zoom. tiles_fault cell_limit document ts zoom) c.in_ok-tiles.ensures c.zero.ensures)
    (opened_so ∙ ap (λ zoom. opened cell_limit document zoom images) c.zero.ensures) in
    λ files asked. subst (λ r. OnErr c.answer_counted.result (StepsAreDue files r asked asked c.args.steps.now c.answer_counted.new.steps)) run (c.answer_counted.ensures.due files asked)

-- the style could not be opened
pub returns-in-Err-clause-answer : goal.returns-in-Err-clause-answer
returns-in-Err-clause-answer g c =
    let document = tree_of c.args.style in
    let fault = subst (λ r. option_map fault_seen (result_err r) ≡ tiles_fault cell_limit document (map tile_seen c.in_ok-tiles.tiles.items) c.zero.result) c.in-Err.is c.in_ok-session.ensures.fault in
    refused_at_first _ _ (fault_seen c.in-Err.fault)
    (fault ∙ ap₂ (λ ts zoom. tiles_fault cell_limit document ts zoom) c.in_ok-tiles.ensures c.zero.ensures) _ c.not_opened.result c.not_opened.ensures

pub returns-in-Err-clause-due : goal.returns-in-Err-clause-due
returns-in-Err-clause-due g c =
    let images = (goal.HostOp-dyn g c.args.images.now).test c.args.images.now.1 in
    let can_change = (goal.HostOp-dyn g c.args.images.now).changes c.args.images.now.1 in
    let scripts = (goal.HostOp-dyn g c.args.scripts.now).test c.args.scripts.now.1 in
    let run = opened_run c.args.features images scripts can_change (tree_of c.args.style) in
    λ files asked. at_error c.not_opened.result (no_steps files run asked asked _ _ (none_asked files run asked) (omega arith))

-- an allocation failed
pub returns-in_err-tiles-clause-due : goal.returns-in_err-tiles-clause-due
returns-in_err-tiles-clause-due g c =
    let images = (goal.HostOp-dyn g c.args.images.now).test c.args.images.now.1 in
    let can_change = (goal.HostOp-dyn g c.args.images.now).changes c.args.images.now.1 in
    let scripts = (goal.HostOp-dyn g c.args.scripts.now).test c.args.scripts.now.1 in
    let run = opened_run c.args.features images scripts can_change (tree_of c.args.style) in
    λ files asked. at_error c.from_residual.result (no_steps files run asked asked _ _ (none_asked files run asked) (omega arith))

pub returns-in_err-session-clause-due : goal.returns-in_err-session-clause-due
returns-in_err-session-clause-due g c =
    let images = (goal.HostOp-dyn g c.args.images.now).test c.args.images.now.1 in
    let can_change = (goal.HostOp-dyn g c.args.images.now).changes c.args.images.now.1 in
    let scripts = (goal.HostOp-dyn g c.args.scripts.now).test c.args.scripts.now.1 in
    let run = opened_run c.args.features images scripts can_change (tree_of c.args.style) in
    λ files asked. at_error c.from_residual-in_err-session.result (no_steps files run asked asked _ _ (none_asked files run asked) (omega arith))
