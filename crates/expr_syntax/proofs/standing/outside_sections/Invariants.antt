use Rattle.std.proofs.Common.{◌≡◌, drop, false}
use Rattle.decimal_json.specs.View.{trees}
use Rattle.expr_syntax.specs.Standing.{outside_sections}
use Rattle.expr_syntax.proofs.standing.outside_sections.Given as goal

abbrev pub invariant-loop-i : goal.invariant-loop-i
invariant-loop-i l = outside_sections l.i l.follows (trees (drop l.i l.items)) ≡ outside_sections 0 false (trees l.items)
