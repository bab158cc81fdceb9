use Rattle.std.proofs.Common.{◌≡◌, drop, length}
use Rattle.decimal_json.specs.View.{trees}
use Rattle.expr_syntax.specs.Elements.{taken}
use Rattle.expr_syntax.specs.Rows.{is_binder}
use Rattle.expr_syntax.specs.Parts.{binding_names}
use Rattle.expr_syntax.proofs.InputLaws.{after_names}
use Rattle.expr_syntax.proofs.values.binding_names.Given as goal

abbrev pub invariant-loop-i : goal.invariant-loop-i
invariant-loop-i l = after_names l.names.items (binding_names (taken is_binder (length l.items) l.i (trees (drop l.i l.items)))) ≡ binding_names (taken is_binder (length l.items) 0 (trees l.items))
