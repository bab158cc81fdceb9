use Rattle.std.proofs.Common.{◌∙◌, ℕ, List, ap, refl}
use Rattle.program_runs.specs.declared.halt.RunHalt.TheVariants.{Stopped}
use Rattle.program_runs.specs.declared.halt.RunStop.TheVariants.{NoMemory}
use Rattle.program_runs.proofs.Asked.{none_asked}
use Rattle.program_runs.specs.Progress.{HaltsAt, outcome_of}
use Rattle.program_runs.specs.Runs.{Run, ends}
use Rattle.program_runs.proofs.Going.{at_residual}
use Rattle.style_program.specs.TileRun.{tile_run, tile_outcome}
use Rattle.style_program.proofs.tile_command.answer_tile.Goals as goal

-- what comes after the bytes of the file were read
abbrev after : (name bytes : List ℕ) → Run
after name bytes = ends (tile_outcome name bytes)

pub returns-clause-answer : goal.returns-clause-answer
returns-clause-answer g c =
    let name = c.args.name.now in
    (c.in_ok-bytes.ensures.on (after name)).outcomes _ (outcome_of c.in_ok-answer_bytes.field-0)
    (c.in_ok-answer_bytes.ensures ∙ ap (tile_outcome name) c.as_slice.ensures.value, refl)

pub returns-in_err-bytes-clause-halt : goal.returns-in_err-bytes-clause-halt
returns-in_err-bytes-clause-halt g c =
    at_residual (λ h. HaltsAt (g.F.Files.told c.args.files.now) (tile_run c.args.name.now) _ _ _ _ _ _ h) c.in_err-bytes.field-0.0 c.from_residual.result c.from_residual.ensures.1
    (c.in_err-bytes.ensures.halt (after c.args.name.now))

pub returns-in_err-answer_bytes-clause-halt : goal.returns-in_err-answer_bytes-clause-halt
returns-in_err-answer_bytes-clause-halt g c =
    let files = g.F.Files.told c.args.files.now in
    let name = c.args.name.now in
    at_residual (λ h. HaltsAt files (tile_run name) _ _ _ _ _ _ h) (Stopped NoMemory)
    c.from_residual-in_err-answer_bytes.result c.from_residual-in_err-answer_bytes.ensures.1
    (c.in_ok-bytes.ensures.failed, (c.in_ok-bytes.ensures.on (after name)).reads _ (none_asked files (after name c.in_ok-bytes.bytes.items) _))
