-- A `let` by what the program has cut its elements and arguments into.
use Rattle.std.proofs.Common.{◌≡◌, ◌∙◌, ◌-◌, ℕ, List, length, take, drop, ap, sym}
use Rattle.std.specs.Prelude.{Option}
use Rattle.std.specs.List.{slice_get}
use Rattle.decimal_json.specs.Tree.{Tree, list}
use Rattle.decimal_json.specs.View.{trees, items_view}
use Rattle.decimal_json.specs.declared.tree.Json.{Json}
use Rattle.prop_values.specs.declared.kinds.Kind.{Kind}
use Rattle.expr_syntax.specs.declared.expression.Expr.{Expr}
use Rattle.expr_types.specs.ScopeView.{scope_of}
use Rattle.style_simplify.specs.NodeView.{elements_at, body_at, let_at}
use Rattle.style_simplify.specs.Simple.{elements, let_body, let_choices}
use Rattle.style_simplify.specs.SimpleElements.{SimpleElement, argument_kinds}
use Rattle.style_simplify.specs.View.{simples_of}
use Rattle.style_simplify.specs.declared.simplifying.SimpleContext.{SimpleContext}
use Rattle.style_simplify.proofs.NodeLaws.{items_length, items_take, simples_length, simples_take, simples_drop}

module _ (c : SimpleContext) (names : List (List ℕ)) where
  pub let_by : (es own rest : List Expr) (js front : List Json) (last : Option Tree) (bindings : List SimpleElement) (ks : Option (List Kind)) (body : Option SimpleElement) →
      own ≡ take (length names) es → rest ≡ drop (length names) es → front ≡ take (length js - 1) js → last ≡ slice_get (items_view js) (length js - 1) →
      bindings ≡ elements_at c (length js) (length es) 0 0 own front → ks ≡ argument_kinds bindings → body ≡ body_at c names ks rest last →
      let_choices names c.want bindings body (list (trees js)) ≡ let_at c names es js
  let_by es own rest js front last bindings ks body p q f l b k h =
      let n : length js ≡ length (items_view js) = sym (items_length js) in
      let m : length es ≡ length (simples_of es) = sym (simples_length es) in
      let first : simples_of own ≡ take (length names) (simples_of es) = ap simples_of p ∙ simples_take (length names) es in
      let others : simples_of rest ≡ drop (length names) (simples_of es) = ap simples_of q ∙ simples_drop (length names) es in
      let before : items_view front ≡ take (length (items_view js) - 1) (items_view js) =
      ap items_view f ∙ (items_take (length js - 1) js ∙ ap (λ x. take (x - 1) (items_view js)) n) in
      let end : last ≡ slice_get (items_view js) (length (items_view js) - 1) = l ∙ ap (λ x. slice_get (items_view js) (x - 1)) n in
      let made : bindings ≡ elements c.op.now (length (items_view js)) (length (simples_of es)) c.want (scope_of c.scope.now) 0 0 (take (length names) (simples_of es)) (take (length (items_view js) - 1) (items_view js)) =
      b ∙ (λ i. elements c.op.now (n i) (m i) c.want (scope_of c.scope.now) 0 0 (first i) (before i)) in
      let kinds : ks ≡ argument_kinds (elements c.op.now (length (items_view js)) (length (simples_of es)) c.want (scope_of c.scope.now) 0 0 (take (length names) (simples_of es)) (take (length (items_view js) - 1) (items_view js))) =
      k ∙ ap argument_kinds made in
      let inside : body ≡ let_body names c.want (scope_of c.scope.now) (argument_kinds (elements c.op.now (length (items_view js)) (length (simples_of es)) c.want (scope_of c.scope.now) 0 0 (take (length names) (simples_of es)) (take (length (items_view js) - 1) (items_view js)))) (drop (length names) (simples_of es)) (slice_get (items_view js) (length (items_view js) - 1)) =
      h ∙ (λ i. let_body names c.want (scope_of c.scope.now) (kinds i) (others i) (end i)) in
      λ i. let_choices names c.want (made i) (inside i) (list (trees js))
