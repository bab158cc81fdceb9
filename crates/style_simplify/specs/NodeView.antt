-- What becomes of a node, by what the program has of it.
use Rattle.std.specs.Prelude.{ℕ, List, Option, None, false, if◌then◌else◌}
use Rattle.std.specs.List.{slice_get}
use Rattle.decimal_json.specs.Tree.{Tree}
use Rattle.decimal_json.specs.View.{items_view}
use Rattle.decimal_json.specs.declared.tree.Json.{Json}
use Rattle.prop_values.specs.declared.kinds.Kind.{Kind}
use Rattle.expr_syntax.specs.Names.{row}
use Rattle.expr_syntax.specs.Operators.{operator_name}
use Rattle.expr_syntax.specs.Reading.{is_part}
use Rattle.expr_syntax.specs.Rows.{element_place}
use Rattle.expr_syntax.specs.TermView.{term_of}
use Rattle.expr_syntax.specs.declared.expression.Expr.{Expr}
use Rattle.expr_syntax.specs.declared.expression.Operator.{Operator}
use Rattle.expr_syntax.specs.declared.parts.FormatPiece.{FormatPiece}
use Rattle.expr_types.specs.ScopeView.{scope_of}
use Rattle.expr_types.specs.Typing.{argument_want}
use Rattle.style_simplify.specs.Choices.{NodeChoices}
use Rattle.style_simplify.specs.Simple.{choices, choices_in, elements, format_choices, let_body, body_among, let_simple}
use Rattle.style_simplify.specs.Simple.{node_choices, plain_choices, piece_elements, simple_element}
use Rattle.style_simplify.specs.SimpleElements.{SimpleElement}
use Rattle.style_simplify.specs.View.{simples_of}
use Rattle.style_simplify.specs.declared.simplifying.SimpleContext.{SimpleContext}

abbrev pub node_at : SimpleContext → List Expr → Tree → NodeChoices
node_at c es t = node_choices c.op.now (simples_of es) t c.want (scope_of c.scope.now)

abbrev pub inside_at : SimpleContext → List Expr → List Json → NodeChoices
inside_at c es js = choices_in c.op.now (simples_of es) (items_view js) c.want (scope_of c.scope.now)

abbrev pub plain_at : SimpleContext → List Expr → List Json → NodeChoices
plain_at c es js = plain_choices c.op.now (simples_of es) (items_view js) c.want (scope_of c.scope.now)

abbrev pub let_at : SimpleContext → List (List ℕ) → List Expr → List Json → NodeChoices
let_at c names es js = let_simple c.op.now names (simples_of es) (items_view js) c.want (scope_of c.scope.now)

abbrev pub format_at : SimpleContext → List FormatPiece → List Expr → List Json → NodeChoices
format_at c pieces es js = format_choices c.op.now pieces (simples_of es) (items_view js) c.want (scope_of c.scope.now)

-- the argument that an element at place i of n is, where argument k is the next
abbrev pub argument_here : Operator → ℕ → ℕ → List Expr → ℕ → Option Expr
argument_here op n i es k = if is_part (element_place (row (operator_name op)).layout n i) then None else slice_get es k

abbrev pub argument_at : SimpleContext → ℕ → ℕ → Expr → Tree → SimpleElement
argument_at c m k e t =
    simple_element false (choices (term_of e)) t (argument_want c.op.now m k c.want) (scope_of c.scope.now)

-- the elements of a node of n elements and m arguments, from a place on
abbrev pub elements_at : SimpleContext → ℕ → ℕ → ℕ → ℕ → List Expr → List Json → List SimpleElement
elements_at c n m i k es js = elements c.op.now n m c.want (scope_of c.scope.now) i k (simples_of es) (items_view js)

abbrev pub body_at : SimpleContext → List (List ℕ) → Option (List Kind) → List Expr → Option Tree → Option SimpleElement
body_at c names ks es last = let_body names c.want (scope_of c.scope.now) ks (simples_of es) last

abbrev pub body_in : SimpleContext → List (List ℕ) → List Kind → Expr → Tree → Option SimpleElement
body_in c names ks e t = body_among names c.want (scope_of c.scope.now) ks (choices (term_of e)) t

abbrev pub pieces_at : SimpleContext → List FormatPiece → ℕ → List Expr → List Json → List SimpleElement
pieces_at c pieces k es js = piece_elements pieces k (simples_of es) (items_view js) (scope_of c.scope.now)
