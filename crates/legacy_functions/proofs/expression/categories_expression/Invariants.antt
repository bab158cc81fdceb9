use Rattle.std.proofs.Common.{◌≡◌, ◌++◌, ◌∷◌, drop}
use Rattle.std.specs.Prelude.{map, codes}
use Rattle.decimal_json.specs.Tree.{text}
use Rattle.legacy_functions.specs.FunctionView.{property_tree}
use Rattle.legacy_functions.specs.Parts.{category_seen}
use Rattle.legacy_functions.specs.ToExpression.{category_elements}
use Rattle.legacy_functions.proofs.expression.categories_expression.Given as goal

abbrev pub invariant-loop-stop : goal.invariant-loop-stop
invariant-loop-stop l =
    l.items ++ category_elements (property_tree l.function) (map category_seen (drop l.stop-index l.stops))
    ≡ text (codes "case") ∷ category_elements (property_tree l.function) (map category_seen l.stops)
