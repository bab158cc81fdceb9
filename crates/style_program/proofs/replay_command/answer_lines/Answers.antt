use Rattle.std.proofs.Common.{◌≡◌, ◌∙◌, List, ℕ, ap, sym, subst}
use Rattle.std.specs.Prelude.{IfErr, IfOk}
use Rattle.edit_session.specs.View.{session_state, tiles_of}
use Rattle.program_runs.specs.Progress.{IsCut, IsWritten}
use Rattle.program_runs.specs.Runs.{Run}
use Rattle.script_runs.specs.ScriptRun.{script_run}
use Rattle.style_program.specs.ReplayRun.{answered_by}
use Rattle.view_desk.specs.DeskRun.{desk_script_run}
use Rattle.style_program.proofs.replay_command.answer_lines.Goals as goal

pub answer_desk-requires : goal.answer_desk-requires
answer_desk-requires g c = c.new-desk.ensures.sound _ _ c.requires

pub returns-in-Replay-clause-stop : goal.returns-in-Replay-clause-stop
returns-in-Replay-clause-stop g c = λ files asked.
    let images = (goal.HostOp-dyn g c.args.images.now).test c.args.images.now.1 in
    let scripts = (goal.HostOp-dyn g c.args.scripts.now).test c.args.scripts.now.1 in
    let can_change = (goal.HostOp-dyn g c.args.images.now).changes c.args.images.now.1 in
    let s = c.args.opened.session in
    let run : script_run (tiles_of s) scripts can_change (session_state s images) c.as_slice.result.now
    ≡ answered_by c.args.opened.kind scripts can_change (tiles_of s) (session_state s images) c.args.opened.script.items =
    ap (λ (text : List ℕ). script_run (tiles_of s) scripts can_change (session_state s images) text) c.as_slice.ensures.value
    ∙ ap (λ kind. answered_by kind scripts can_change (tiles_of s) (session_state s images) c.args.opened.script.items) (sym c.in-Replay.is) in
    subst (λ (r : Run). IfErr c.answer_script.result (IsCut files r asked (g.O.Sink.held c.args.out.now) (g.O.Sink.held c.answer_script.new.out)
    c.args.steps.now c.answer_script.new.steps (g.O.Sink.faults c.args.out.now) (g.O.Sink.faults c.answer_script.new.out))) run (c.answer_script.ensures.stop files asked)

pub returns-clause-written : goal.returns-clause-written
returns-clause-written g c = λ files asked.
    let images = (goal.HostOp-dyn g c.args.images.now).test c.args.images.now.1 in
    let scripts = (goal.HostOp-dyn g c.args.scripts.now).test c.args.scripts.now.1 in
    let can_change = (goal.HostOp-dyn g c.args.images.now).changes c.args.images.now.1 in
    let s = c.args.opened.session in
    let run = (λ k. desk_script_run (c.new-desk.ensures.tiles k) scripts can_change (c.new-desk.ensures.state images k) (c.as_slice-in-Desk.ensures.value k))
    ∙ ap (λ kind. answered_by kind scripts can_change (tiles_of s) (session_state s images) c.args.opened.script.items) (sym c.in-Desk.is) in
    subst (λ (r : Run). IfOk c.answer_desk.result (IsWritten files r asked (g.O.Sink.held c.args.out.now) (g.O.Sink.held c.answer_desk.new.out)
    c.args.steps.now c.answer_desk.new.steps))
    run (c.answer_desk.ensures.written files asked)

pub returns-clause-stop : goal.returns-clause-stop
returns-clause-stop g c = λ files asked.
    let images = (goal.HostOp-dyn g c.args.images.now).test c.args.images.now.1 in
    let scripts = (goal.HostOp-dyn g c.args.scripts.now).test c.args.scripts.now.1 in
    let can_change = (goal.HostOp-dyn g c.args.images.now).changes c.args.images.now.1 in
    let s = c.args.opened.session in
    let run = (λ k. desk_script_run (c.new-desk.ensures.tiles k) scripts can_change (c.new-desk.ensures.state images k) (c.as_slice-in-Desk.ensures.value k))
    ∙ ap (λ kind. answered_by kind scripts can_change (tiles_of s) (session_state s images) c.args.opened.script.items) (sym c.in-Desk.is) in
    subst (λ (r : Run). IfErr c.answer_desk.result (IsCut files r asked (g.O.Sink.held c.args.out.now) (g.O.Sink.held c.answer_desk.new.out)
    c.args.steps.now c.answer_desk.new.steps (g.O.Sink.faults c.args.out.now) (g.O.Sink.faults c.answer_desk.new.out))) run (c.answer_desk.ensures.stop files asked)
