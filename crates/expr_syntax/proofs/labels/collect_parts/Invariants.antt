use Rattle.std.proofs.Common.{◌≡◌, ◌≤◌, drop, length}
use Rattle.decimal_json.specs.View.{trees}
use Rattle.expr_syntax.specs.Elements.{taken}
use Rattle.expr_syntax.specs.Rows.{is_label}
use Rattle.expr_syntax.specs.Parts.{collect_parts, no_labels}
use Rattle.expr_syntax.proofs.labels.collect_parts.Given as goal

abbrev pub invariant-loop-i : goal.invariant-loop-i
invariant-loop-i l = (collect_parts l.output (taken is_label (length l.items) l.i (trees (drop l.i l.items))) l.found ≡ collect_parts 0 (taken is_label (length l.items) 0 (trees l.items)) no_labels) × (l.output ≤ l.i)
