use Rattle.std.proofs.Common.{sym, subst}
use Rattle.std.specs.Prelude.{IfErr, IfOk}
use Rattle.edit_session.specs.View.{IsSoundSession}
use Rattle.program_runs.specs.Progress.{IsCut, IsWritten}
use Rattle.style_program.specs.PreparedRun.{opened_run, session_of}
use Rattle.style_program.specs.declared.opened_run.OpenedRun.{OpenedRun}
use Rattle.style_program.proofs.opened_run.write_answers.Goals as goal

-- ---- a listing

pub write_listing-requires : goal.write_listing-requires
write_listing-requires g c =
    let images = (goal.HostOp-dyn g c.args.images.now).test c.args.images.now.1 in
    let scripts = (goal.HostOp-dyn g c.args.scripts.now).test c.args.scripts.now.1 in
    subst (λ (o : OpenedRun). IsSoundSession (session_of o) images scripts) c.in-Listing.is c.requires

pub returns-in-Listing-clause-written : goal.returns-in-Listing-clause-written
returns-in-Listing-clause-written g c =
    let images = (goal.HostOp-dyn g c.args.images.now).test c.args.images.now.1 in
    let scripts = (goal.HostOp-dyn g c.args.scripts.now).test c.args.scripts.now.1 in
    let can_change = (goal.HostOp-dyn g c.args.images.now).changes c.args.images.now.1 in
    λ files asked. subst (λ (o : OpenedRun).
    IfOk c.write_listing.result (IsWritten files (opened_run images scripts can_change o) asked
    (g.O.Sink.held c.args.out.now) (g.O.Sink.held c.write_listing.new.out) c.args.steps.now c.write_listing.new.steps))
    (sym c.in-Listing.is) (c.write_listing.ensures.written files asked)

pub returns-in-Listing-clause-stop : goal.returns-in-Listing-clause-stop
returns-in-Listing-clause-stop g c =
    let images = (goal.HostOp-dyn g c.args.images.now).test c.args.images.now.1 in
    let scripts = (goal.HostOp-dyn g c.args.scripts.now).test c.args.scripts.now.1 in
    let can_change = (goal.HostOp-dyn g c.args.images.now).changes c.args.images.now.1 in
    λ files asked. subst (λ (o : OpenedRun).
    IfErr c.write_listing.result (IsCut files (opened_run images scripts can_change o) asked
    (g.O.Sink.held c.args.out.now) (g.O.Sink.held c.write_listing.new.out) c.args.steps.now c.write_listing.new.steps
    (g.O.Sink.faults c.args.out.now) (g.O.Sink.faults c.write_listing.new.out)))
    (sym c.in-Listing.is) (c.write_listing.ensures.stop files asked)

-- ---- a script

pub answer_lines-requires : goal.answer_lines-requires
answer_lines-requires g c =
    let images = (goal.HostOp-dyn g c.args.images.now).test c.args.images.now.1 in
    let scripts = (goal.HostOp-dyn g c.args.scripts.now).test c.args.scripts.now.1 in
    subst (λ (o : OpenedRun). IsSoundSession (session_of o) images scripts) c.in-Script.is c.requires

pub returns-in-Script-clause-written : goal.returns-in-Script-clause-written
returns-in-Script-clause-written g c =
    let images = (goal.HostOp-dyn g c.args.images.now).test c.args.images.now.1 in
    let scripts = (goal.HostOp-dyn g c.args.scripts.now).test c.args.scripts.now.1 in
    let can_change = (goal.HostOp-dyn g c.args.images.now).changes c.args.images.now.1 in
    λ files asked. subst (λ (o : OpenedRun).
    IfOk c.answer_lines.result (IsWritten files (opened_run images scripts can_change o) asked
    (g.O.Sink.held c.args.out.now) (g.O.Sink.held c.answer_lines.new.out) c.args.steps.now c.answer_lines.new.steps))
    (sym c.in-Script.is) (c.answer_lines.ensures.written files asked)

pub returns-in-Script-clause-stop : goal.returns-in-Script-clause-stop
returns-in-Script-clause-stop g c =
    let images = (goal.HostOp-dyn g c.args.images.now).test c.args.images.now.1 in
    let scripts = (goal.HostOp-dyn g c.args.scripts.now).test c.args.scripts.now.1 in
    let can_change = (goal.HostOp-dyn g c.args.images.now).changes c.args.images.now.1 in
    λ files asked. subst (λ (o : OpenedRun).
    IfErr c.answer_lines.result (IsCut files (opened_run images scripts can_change o) asked
    (g.O.Sink.held c.args.out.now) (g.O.Sink.held c.answer_lines.new.out) c.args.steps.now c.answer_lines.new.steps
    (g.O.Sink.faults c.args.out.now) (g.O.Sink.faults c.answer_lines.new.out)))
    (sym c.in-Script.is) (c.answer_lines.ensures.stop files asked)
