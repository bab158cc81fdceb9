use Rattle.std.proofs.Common.{◌∙◌, map, string_bytes}
use Rattle.lint_runs.specs.LintRun.{lint_parts, none_linted}
use Rattle.lint_runs.specs.Views.{styles_seen}
use Rattle.program_runs.specs.Progress.{Halts}
use Rattle.program_runs.proofs.Going.{at_residual}
use Rattle.lint_runs.proofs.Turns.{halts_style, leads_style, none_below}
use Rattle.lint_runs.proofs.styles.lint_styles.Goals as goal

pub returns-in_err-lint_next-clause-halt : goal.returns-in_err-lint_next-clause-halt
returns-in_err-lint_next-clause-halt g c =
    let files = g.F.Files.told c.args.files.now in
    let whole = lint_parts c.args.form none_linted (map string_bytes c.args.names.now) in
    at_residual (λ h. Halts files whole _ _ _ _ _ _ h) c.in_err-lint_next.field-0.0 c.from_residual.result c.from_residual.ensures.1
    (halts_style c.args.form files (g.F.Files.told c.loop-name.files) c.loop-name.invariant.told whole c.args.names.now c.loop-name.name-index c.name-item.result
    c.as_str.result.now (styles_seen c.loop-name.all) c.loop-name-test.true c.name-item.is c.as_str.ensures.value
    (g.F.Files.asked c.args.files.now) (g.F.Files.asked c.loop-name.files) c.loop-name.invariant.leads _ _ _ _ _ _ _ c.in_err-lint_next.field-0.0
    c.loop-name.invariant.failed c.in_err-lint_next.ensures.halt)

pub loop-name-preserved : goal.loop-name-preserved
loop-name-preserved g c = record {
  told = c.lint_next.ensures.told ∙ c.loop-name.invariant.told;
  none = λ is. absurd (none_below c.args.names.now c.loop-name.name-index c.loop-name-test.true is);
  failed = (c.in_ok-lint_next.ensures.failed.0 ∙ c.loop-name.invariant.failed.0, c.in_ok-lint_next.ensures.failed.1 ∙ c.loop-name.invariant.failed.1);
  lines = c.in_ok-lint_next.ensures.lines;
  leads =
      let files = g.F.Files.told c.args.files.now in
      let whole = lint_parts c.args.form none_linted (map string_bytes c.args.names.now) in
      leads_style c.args.form files (g.F.Files.told c.loop-name.files) c.loop-name.invariant.told whole c.args.names.now c.loop-name.name-index c.name-item.result
      c.as_str.result.now (styles_seen c.loop-name.all) c.loop-name-test.true c.name-item.is c.as_str.ensures.value
      (g.F.Files.asked c.args.files.now) (g.F.Files.asked c.loop-name.files) c.loop-name.invariant.leads (styles_seen c.lint_next.new.all)
      (g.F.Files.asked c.lint_next.new.files) c.in_ok-lint_next.ensures.on;
}
