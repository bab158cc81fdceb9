use Rattle.std.proofs.Common.{refl}
use Rattle.program_runs.specs.declared.halt.RunHalt.TheVariants.{Stopped}
use Rattle.program_runs.specs.declared.halt.RunStop.TheVariants.{NoMemory}
use Rattle.program_runs.proofs.Asked.{none_asked}
use Rattle.program_runs.proofs.Going.{at_residual}
use Rattle.program_runs.specs.Progress.{Halts}
use Rattle.style_program.specs.ShownRun.{tile_from}
use Rattle.style_program.proofs.loading.tile_in.Goals as goal

pub returns-in_err-tile-clause-halt : goal.returns-in_err-tile-clause-halt
returns-in_err-tile-clause-halt c = λ files count failed asked.
    let part = tile_from c.args.number c.args.source.now c.args.bytes.now in
    at_residual (λ h. Halts files part count count failed failed asked asked h) (Stopped NoMemory) c.from_residual.result c.from_residual.ensures.1
    (λ k. ((refl, refl), none_asked files (part k) asked))
