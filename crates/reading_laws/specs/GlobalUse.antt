-- Which expressions read the global state. Source: own.
use Rattle.std.specs.Prelude.{◌≡◌, ℕ, List, false, Some, Ok}
use Rattle.decimal_json.specs.Tree.{Tree}
use Rattle.prop_values.specs.Data.{Data}
use Rattle.expr_syntax.specs.ReadView.{uses_globals}
use Rattle.expr_syntax.specs.Reading.{reading_with}
use Rattle.expr_syntax.specs.Term.{Term}

-- An expression that is read as one expression with all values of the global state has no `global-state` node.
abbrev pub FixedExpressionsUseNoGlobals : Type 0
FixedExpressionsUseNoGlobals =
    (t : Tree) (e : Term) → ((values : List (List ℕ × Data)) → reading_with t values ≡ Ok (Some e)) →
    uses_globals t ≡ false
