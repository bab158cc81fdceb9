-- Which bindings a node asks for.
use Rattle.std.specs.Prelude.{◌≡◌, ℕ, ◌<◌, List, [], ◌∷◌, Bool, true, false, Some}
use Rattle.std.specs.List.{slice_get}
use Rattle.eval_face.specs.Rules.{Rule, bindings, variable, rule_of}
use Rattle.expr_nodes.specs.Node.{Node, constant, asked, property, inner, Children, childless, child}

-- whether an operator binds a name or asks for one
abbrev pub has_names : Rule → Bool
has_names (bindings names) = true
has_names (variable name) = true
has_names _ = false

-- The bindings that a node asks for have numbers below a limit, and it has no names.
abbrev mutual
  pub AsksBelow : ℕ → Node → Type 0
  AsksBelow limit (constant outcome) = Unit {0}
  AsksBelow limit (asked slot want) = slot < limit
  AsksBelow limit (property key want) = Unit {0}
  AsksBelow limit (inner op want ns) = (has_names (rule_of op) ≡ false) × AllAskBelow limit ns

  pub AllAskBelow : ℕ → Children → Type 0
  AllAskBelow limit childless = Unit {0}
  AllAskBelow limit (child n ns) = AsksBelow limit n × AllAskBelow limit ns

abbrev pub EachAsksBelow : ℕ → List Node → Type 0
EachAsksBelow limit [] = Unit {0}
EachAsksBelow limit (n ∷ ns) = AsksBelow limit n × EachAsksBelow limit ns

-- Each binding asks for earlier ones alone.
abbrev pub AskEarlier : List Node → Type 0
AskEarlier ns = (i : ℕ) (n : Node) → slice_get ns i ≡ Some n → AsksBelow i n
