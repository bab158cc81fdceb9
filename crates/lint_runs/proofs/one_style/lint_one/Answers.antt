use Rattle.std.proofs.Common.{option_map}
use Rattle.lint_runs.specs.LintRun.{bytes_part, lint_part, most_bytes}
use Rattle.lint_runs.specs.Views.{styles_seen}
use Rattle.program_runs.specs.Progress.{Halts}
use Rattle.program_runs.specs.Runs.{may_read}
use Rattle.program_runs.specs.declared.halt.RunHalt.TheVariants.{Stopped}
use Rattle.program_runs.specs.declared.halt.RunStop.TheVariants.{NoMemory}
use Rattle.program_runs.proofs.Asked.{none_asked}
use Rattle.program_runs.proofs.Going.{at_residual, halts_first, leads_on}
use Rattle.lint_runs.proofs.one_style.lint_one.Goals as goal

pub returns-in_err-bytes-clause-halt : goal.returns-in_err-bytes-clause-halt
returns-in_err-bytes-clause-halt g c =
    let files = g.F.Files.told c.args.files.now in
    let name = c.args.name.now in
    let left = c.args.left in
    at_residual (λ h. Halts files (lint_part c.args.form left name) _ _ _ _ _ _ h) c.in_err-bytes.field-0.0 c.from_residual.result c.from_residual.ensures.1
    (halts_first files (may_read name (most_bytes left)) (bytes_part c.args.form left name) _ _ _ _ _ _ c.in_err-bytes.field-0.0 c.in_err-bytes.ensures.halt)

-- the file was read, and its lines do not fit into memory
pub returns-in_err-lint_read-clause-halt : goal.returns-in_err-lint_read-clause-halt
returns-in_err-lint_read-clause-halt g c =
    let files = g.F.Files.told c.args.files.now in
    let name = c.args.name.now in
    let left = c.args.left in
    at_residual (λ h. Halts files (lint_part c.args.form left name) _ _ _ _ _ _ h) (Stopped NoMemory)
    c.from_residual-in_err-lint_read.result c.from_residual-in_err-lint_read.ensures.1
    (λ k. (
      c.in_ok-bytes.ensures.failed,
      (c.in_ok-bytes.ensures.on (λ b. bytes_part c.args.form left name b k)).reads _
          (none_asked files (bytes_part c.args.form left name (option_map (λ read. read.items) c.in_ok-bytes.bytes) k) _),
    ))

pub returns-clause-on : goal.returns-clause-on
returns-clause-on g c =
    let files = g.F.Files.told c.args.files.now in
    let name = c.args.name.now in
    let left = c.args.left in
    λ k. leads_on files (lint_part c.args.form left name k) (bytes_part c.args.form left name (option_map (λ read. read.items) c.in_ok-bytes.bytes) k) (k (styles_seen c.in_ok-lint_read.field-0))
    _ _ _ (c.in_ok-bytes.ensures.on (λ b. bytes_part c.args.form left name b k)) (c.in_ok-lint_read.ensures.on files _ k)
