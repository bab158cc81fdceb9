use Rattle.std.proofs.Common.{◌≡◌, ◌∷◌, ◌++◌, drop}
use Rattle.decimal_json.specs.Tree.{text}
use Rattle.legacy_filters.specs.ToExpression.{expressions}
use Rattle.legacy_filters.specs.View.{part_filters}
use Rattle.legacy_filters.proofs.expression.+expression.Given as goal

abbrev pub invariant-call_of_parts-loop-part : goal.invariant-call_of_parts-loop-part
invariant-call_of_parts-loop-part l = l.items ++ expressions (part_filters (drop l.part-index l.parts)) ≡ text l.name ∷ expressions (part_filters l.parts)
