-- Simplified elements of the program, as definitions see them.
use Rattle.std.specs.Prelude.{List, map, option_map}
use Rattle.decimal_json.specs.View.{tree_of}
use Rattle.expr_syntax.specs.TermView.{terms}
use Rattle.expr_syntax.specs.declared.expression.Expr.{Expr}
use Rattle.style_simplify.specs.Choices.{NodeChoices}
use Rattle.style_simplify.specs.Simple.{Simple, simples}
use Rattle.style_simplify.specs.SimpleElements.{SimpleElement}
use Rattle.style_simplify.specs.declared.element.SimpleElement.{SimpleElement as CodeElement}
use Rattle.style_simplify.specs.declared.choices.NodeChoices.{NodeChoices as CodeChoices}

abbrev pub element_seen : CodeElement → SimpleElement
element_seen e =
    record { tree = tree_of e.json; is_part = e.is_part; kind = e.kind; asks = e.asks.items; reads = e.reads }

abbrev pub elements_seen : List CodeElement → List SimpleElement
elements_seen = map element_seen

abbrev pub choices_seen : CodeChoices → NodeChoices
choices_seen c = record {
  node = element_seen c.node;
  literal = option_map element_seen c.literal;
  shorter = option_map element_seen c.shorter;
}

abbrev pub simples_of : List Expr → List Simple
simples_of es = simples (terms es)
