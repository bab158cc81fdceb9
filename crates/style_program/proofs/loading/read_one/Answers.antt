use Rattle.std.proofs.Common.{refl}
use Rattle.program_runs.specs.Progress.{Halts}
use Rattle.program_runs.specs.Refusals.{too_long, tile_text, tile_number}
use Rattle.program_runs.specs.Runs.{reads}
use Rattle.program_runs.proofs.Going.{halts_first, goes_both, halts_second, at_residual}
use Rattle.style_program.specs.ShownRun.{tile_from, tile_part}
use Rattle.style_program.proofs.loading.read_one.Goals as goal

pub returns-clause-on : goal.returns-clause-on
returns-clause-on g c =
    let files = g.F.Files.told c.args.files.now in let source = c.args.source.now in let number = c.args.number in
    let longer = too_long (tile_text source) (tile_number number) in
    let rest = tile_from number source in
    goes_both files (reads longer c.args.name.now c.args.at_most) rest _ _ c.in_ok-bytes.bytes.items c.as_slice.result.now
    c.in_ok-bytes.ensures.on c.as_slice.ensures.value files refl _ (λ read. (read.0, read.1)) c.tile_in.result (c.tile_in.ensures.on files _)

pub returns-clause-halt : goal.returns-clause-halt
returns-clause-halt g c =
    let files = g.F.Files.told c.args.files.now in let source = c.args.source.now in let number = c.args.number in
    let longer = too_long (tile_text source) (tile_number number) in
    let rest = tile_from number source in
    halts_second files (reads longer c.args.name.now c.args.at_most) rest _ _ c.in_ok-bytes.bytes.items c.as_slice.result.now
    c.in_ok-bytes.ensures.on c.as_slice.ensures.value files refl _ _ _ _ _ _ _ c.tile_in.result c.in_ok-bytes.ensures.failed
    (c.tile_in.ensures.halt files _ _ _)

pub returns-in_err-bytes-clause-halt : goal.returns-in_err-bytes-clause-halt
returns-in_err-bytes-clause-halt g c =
    let files = g.F.Files.told c.args.files.now in let source = c.args.source.now in let number = c.args.number in
    let longer = too_long (tile_text source) (tile_number number) in
    let rest = tile_from number source in
    at_residual (λ h. Halts files (tile_part number c.args.at_most (source, c.args.name.now)) _ _ _ _ _ _ h) c.in_err-bytes.field-0.0
    c.from_residual.result c.from_residual.ensures.1
    (halts_first files (reads longer c.args.name.now c.args.at_most) rest _ _ _ _ _ _ c.in_err-bytes.field-0.0 c.in_err-bytes.ensures.halt)
