use Rattle.std.proofs.Common.{◌≡◌, drop}
use Rattle.decimal_json.specs.View.{trees}
use Rattle.expr_syntax.specs.Parts.{collect_labels}
use Rattle.expr_syntax.proofs.labels.collect_labels.Given as goal

abbrev pub invariant-loop-label : goal.invariant-loop-label
invariant-loop-label l = collect_labels l.output (trees (drop l.label-index l.labels)) l.found ≡ collect_labels l.output (trees l.labels) l.fn.found
