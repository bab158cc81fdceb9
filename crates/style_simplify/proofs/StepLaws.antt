-- The elements of a node one after the other, and a node by its operator.
use Rattle.std.proofs.Common.{◌≡◌, ◌∙◌, ◌<◌, ◌≤◌, ◌+◌, ℕ, zero, suc, List, [], ◌∷◌, ◌++◌, length, drop, drop-cons, get_or, refl, ap, sym, subst, arith}
use Rattle.std.proofs.lemmas.Option.{slice_get_within, get_or_from_slice_get}
use Rattle.std.specs.Prelude.{Bool, true, false, if◌then◌else◌, Option, Some, None}
use Rattle.std.specs.List.{slice_get}
use Rattle.decimal_json.specs.Tree.{Tree, list, trees_of}
use Rattle.decimal_json.specs.View.{tree_of, items_view}
use Rattle.decimal_json.specs.declared.tree.Json.{Json}
use Rattle.prop_values.specs.declared.kinds.Want.{Want}
use Rattle.expr_syntax.specs.Elements.{head_name}
use Rattle.expr_syntax.specs.Names.{row}
use Rattle.expr_syntax.specs.Operators.{operator_name}
use Rattle.expr_syntax.specs.Reading.{is_part}
use Rattle.expr_syntax.specs.Rows.{element_place}
use Rattle.expr_syntax.specs.TermSize.{nodes}
use Rattle.expr_syntax.specs.TermView.{term_of, weight}
use Rattle.expr_syntax.specs.declared.expression.Expr.{Expr}
use Rattle.expr_syntax.specs.declared.expression.Operator.{Operator}
use Rattle.expr_syntax.specs.declared.expression.Operator.TheVariants.{Get, Let, Var, Format}
use Rattle.expr_syntax.specs.declared.parts.FormatPiece.{FormatPiece}
use Rattle.expr_syntax.proofs.Falls.{argument_weight}
use Rattle.expr_types.specs.ScopeView.{scope_of}
use Rattle.expr_types.specs.Typing.{KindScope, argument_want}
use Rattle.style_simplify.specs.NodeView.{argument_at, argument_here, elements_at, format_at, inside_at, let_at, node_at, pieces_at, plain_at}
use Rattle.style_simplify.specs.Simple.{Simple, as_it_is, choices, choices_from, choices_in, elements, format_choices, format_of, global_element, is_global_name, let_simple, listed, operator_reads, piece_element, plain_choices, simple_element}
use Rattle.style_simplify.specs.SimpleElements.{SimpleElement, part}
use Rattle.style_simplify.specs.View.{element_seen, elements_seen, simples_of}
use Rattle.style_simplify.specs.declared.element.SimpleElement.{SimpleElement as CodeElement}
use Rattle.style_simplify.specs.declared.simplifying.SimpleContext.{SimpleContext}
use Rattle.style_simplify.proofs.ElementLaws.{seen_more}
use Rattle.style_simplify.proofs.NodeLaws.{items_length, listed_again, simples_length}

-- the element of a place, and those after it
pub from_here : {X : Type 0} (xs : List X) (i : ℕ) (x : X) → i < length xs → x ≡ get_or xs i x → drop i xs ≡ x ∷ drop (i + 1) xs
from_here xs i x h p =
    let one : suc i ≡ i + 1 = omega arith in
    subst (λ j. drop i xs ≡ x ∷ drop j xs) one (drop-cons xs i x h ∙ ap (λ y. y ∷ drop (suc i) xs) (sym p))

-- one element more was made
pub one_more : (es new : List CodeElement) (e : CodeElement) (s : SimpleElement) (rest now whole : List SimpleElement) → new ≡ es ++ e ∷ [] → element_seen e ≡ s → now ≡ s ∷ rest → elements_seen es ++ now ≡ whole → elements_seen new ++ rest ≡ whole
one_more es new e s rest now whole put made step before =
    ap (λ xs. elements_seen xs ++ rest) put ∙ (seen_more es e rest ∙ (ap (λ x. elements_seen es ++ x ∷ rest) made ∙ (ap (λ xs. elements_seen es ++ xs) (sym step) ∙ before)))

-- ---- the argument that an element is

if_some : (b : Bool) (o : Option Expr) (e : Expr) → Some e ≡ (if b then None else o) → (b ≡ false) × (Some e ≡ o)
if_some true o e p = absurd (cc)
if_some false o e p = (refl, p)

if_none : (b : Bool) (o : Option Expr) → None ≡ (if b then None else o) → b ≡ false → None ≡ o
if_none true o p q = absurd (cc)
if_none false o p q = p

module _ (op : Operator) (n i : ℕ) (es : List Expr) (k : ℕ) where
  abbrev is_part_there : Bool
  is_part_there = is_part (element_place (row (operator_name op)).layout n i)

  pub here_within : (e : Expr) → Some e ≡ argument_here op n i es k → k < length es
  here_within e p = slice_get_within es k e (sym (if_some is_part_there (slice_get es k) e p).1)

  here_got : (e : Expr) → Some e ≡ argument_here op n i es k → e ≡ get_or es k e
  here_got e p = sym (get_or_from_slice_get es k e e (sym (if_some is_part_there (slice_get es k) e p).1))

  pub here_weight : (e : Expr) → Some e ≡ argument_here op n i es k → nodes (term_of e) ≤ weight es
  here_weight e p = argument_weight es k e (here_got e p) (here_within e p)

  here_dropped : (e : Expr) → Some e ≡ argument_here op n i es k → simples_of (drop k es) ≡ choices (term_of e) ∷ simples_of (drop (k + 1) es)
  here_dropped e p = ap simples_of (from_here es k e (here_within e p) (here_got e p))

none_dropped : (es : List Expr) (k : ℕ) → None ≡ slice_get es k → simples_of (drop k es) ≡ []
none_dropped [] zero p = refl
none_dropped [] (suc k) p = refl
none_dropped (e ∷ es) zero p = absurd (cc)
none_dropped (e ∷ es) (suc k) p = none_dropped es k p

module _ (op : Operator) (n m : ℕ) (want : Want) (scope : KindScope) (i k : ℕ) where
  no_argument : (ss : List Simple) (t : Tree) (ts : List Tree) (b : Bool) → is_part (element_place (row (operator_name op)).layout n i) ≡ b → (b ≡ false → ss ≡ []) → elements op n m want scope i k ss (t ∷ ts) ≡ part t ∷ elements op n m want scope (i + 1) k ss ts
  no_argument [] t ts b p e = refl
  no_argument (s ∷ ss) t ts true p e =
      ap (λ x. if x then part t ∷ elements op n m want scope (i + 1) k (s ∷ ss) ts else simple_element false s t (argument_want op m k want) scope ∷ elements op n m want scope (i + 1) (k + 1) ss ts) p
  no_argument (s ∷ ss) t ts false p e = let q = e refl in absurd (cc)

  one_argument : (ss : List Simple) (s : Simple) (t : Tree) (ts : List Tree) → is_part (element_place (row (operator_name op)).layout n i) ≡ false → elements op n m want scope i k (s ∷ ss) (t ∷ ts) ≡ simple_element false s t (argument_want op m k want) scope ∷ elements op n m want scope (i + 1) (k + 1) ss ts
  one_argument ss s t ts p =
      ap (λ x. if x then part t ∷ elements op n m want scope (i + 1) k (s ∷ ss) ts else simple_element false s t (argument_want op m k want) scope ∷ elements op n m want scope (i + 1) (k + 1) ss ts) p

module _ (c : SimpleContext) where
  pub part_step : (n m i k : ℕ) (es : List Expr) (js : List Json) (j : Json) → None ≡ argument_here c.op.now n i es k → i < length js → j ≡ get_or js i j →
      elements_at c n m i k (drop k es) (drop i js) ≡ part (tree_of j) ∷ elements_at c n m (i + 1) k (drop k es) (drop (i + 1) js)
  part_step n m i k es js j h w p =
      ap (λ (xs : List Json). elements_at c n m i k (drop k es) xs) (from_here js i j w p)
      ∙ no_argument c.op.now n m c.want (scope_of c.scope.now) i k (simples_of (drop k es)) (tree_of j) (items_view (drop (i + 1) js)) (is_part_there c.op.now n i es k) refl
      (λ q. none_dropped es k (if_none (is_part_there c.op.now n i es k) (slice_get es k) h q))

  pub argument_step : (n m i k : ℕ) (es : List Expr) (js : List Json) (j : Json) (e : Expr) → Some e ≡ argument_here c.op.now n i es k → i < length js → j ≡ get_or js i j →
      elements_at c n m i k (drop k es) (drop i js) ≡ argument_at c m k e (tree_of j) ∷ elements_at c n m (i + 1) (k + 1) (drop (k + 1) es) (drop (i + 1) js)
  argument_step n m i k es js j e h w p =
      ap (λ (xs : List Json). elements_at c n m i k (drop k es) xs) (from_here js i j w p)
      ∙ (ap (λ ss. elements c.op.now n m c.want (scope_of c.scope.now) i k ss (tree_of j ∷ items_view (drop (i + 1) js))) (here_dropped c.op.now n i es k e h)
      ∙ one_argument c.op.now n m c.want (scope_of c.scope.now) i k (simples_of (drop (k + 1) es)) (choices (term_of e)) (tree_of j) (items_view (drop (i + 1) js)) (if_some (is_part_there c.op.now n i es k) (slice_get es k) e h).0)

  -- the element of a place was made, a part or an argument, and the next argument has its place
  pub part_more : (n m i k place : ℕ) (es : List Expr) (js : List Json) (j : Json) (made new : List CodeElement) (x : CodeElement) (whole : List SimpleElement) → None ≡ argument_here c.op.now n i es k → i < length js → j ≡ get_or js i j →
      new ≡ made ++ x ∷ [] → element_seen x ≡ part (tree_of j) → place ≡ k → elements_seen made ++ elements_at c n m i k (drop k es) (drop i js) ≡ whole →
      elements_seen new ++ elements_at c n m (i + 1) place (drop place es) (drop (i + 1) js) ≡ whole
  part_more n m i k place es js j made new x whole h w p put is same before =
      ap (λ l. elements_seen new ++ elements_at c n m (i + 1) l (drop l es) (drop (i + 1) js)) same
      ∙ one_more made new x (part (tree_of j)) (elements_at c n m (i + 1) k (drop k es) (drop (i + 1) js)) (elements_at c n m i k (drop k es) (drop i js)) whole put is (part_step n m i k es js j h w p) before

  pub argument_more : (n m i k place : ℕ) (es : List Expr) (js : List Json) (j : Json) (e : Expr) (made new : List CodeElement) (x : CodeElement) (whole : List SimpleElement) → Some e ≡ argument_here c.op.now n i es k → i < length js → j ≡ get_or js i j →
      new ≡ made ++ x ∷ [] → element_seen x ≡ argument_at c m k e (tree_of j) → place ≡ k + 1 → elements_seen made ++ elements_at c n m i k (drop k es) (drop i js) ≡ whole →
      elements_seen new ++ elements_at c n m (i + 1) place (drop place es) (drop (i + 1) js) ≡ whole
  argument_more n m i k place es js j e made new x whole h w p put is same before =
      ap (λ l. elements_seen new ++ elements_at c n m (i + 1) l (drop l es) (drop (i + 1) js)) same
      ∙ one_more made new x (argument_at c m k e (tree_of j)) (elements_at c n m (i + 1) (k + 1) (drop (k + 1) es) (drop (i + 1) js)) (elements_at c n m i k (drop k es) (drop i js)) whole put is (argument_step n m i k es js j e h w p) before

  pub plain_by : (es : List Expr) (js : List Json) (reads : Bool) (made : List SimpleElement) → reads ≡ operator_reads c.op.now (length (simples_of es)) → made ≡ elements_at c (length js) (length es) 0 0 es js → choices_from c.op.now c.want reads made ≡ plain_at c es js
  plain_by es js reads made r m =
      let n : length js ≡ length (items_view js) = sym (items_length js) in
      let l : length es ≡ length (simples_of es) = sym (simples_length es) in
      let all : made ≡ elements c.op.now (length (items_view js)) (length (simples_of es)) c.want (scope_of c.scope.now) 0 0 (simples_of es) (items_view js) =
      m ∙ (λ i. elements c.op.now (n i) (l i) c.want (scope_of c.scope.now) 0 0 (simples_of es) (items_view js)) in
      λ i. choices_from c.op.now c.want (r i) (all i)

  -- ---- `format`

  pub piece_step : (pieces : List FormatPiece) (k : ℕ) (es : List Expr) (e : Expr) (js : List Json) → k < length es → e ≡ get_or es k e →
      pieces_at c pieces k (drop k es) js ≡ piece_element (slice_get pieces k) (choices (term_of e)) (items_view js) (scope_of c.scope.now) ∷ pieces_at c pieces (k + 1) (drop (k + 1) es) js
  piece_step pieces k es e js w p = ap (λ (xs : List Expr). pieces_at c pieces k xs js) (from_here es k e w p)

  pub format_by : (pieces : List FormatPiece) (es : List Expr) (js : List Json) (made : List SimpleElement) (node : SimpleElement) → made ≡ pieces_at c pieces 0 es js → node ≡ format_of c.op.now pieces c.want (items_view js) made → as_it_is c.want node ≡ format_at c pieces es js
  format_by pieces es js made node m n = ap (as_it_is c.want) (n ∙ ap (format_of c.op.now pieces c.want (items_view js)) m)

  -- ---- by the operator

  pub inside_let : (names : List (List ℕ)) (es : List Expr) (js : List Json) → c.op.now ≡ Let names → let_at c names es js ≡ inside_at c es js
  inside_let names es js p =
      ap (λ o. let_simple o names (simples_of es) (items_view js) c.want (scope_of c.scope.now)) p
      ∙ ap (λ o. choices_in o (simples_of es) (items_view js) c.want (scope_of c.scope.now)) (sym p)

  pub inside_format : (pieces : List FormatPiece) (es : List Expr) (js : List Json) → c.op.now ≡ Format pieces → format_at c pieces es js ≡ inside_at c es js
  inside_format pieces es js p =
      ap (λ o. format_choices o pieces (simples_of es) (items_view js) c.want (scope_of c.scope.now)) p
      ∙ ap (λ o. choices_in o (simples_of es) (items_view js) c.want (scope_of c.scope.now)) (sym p)

abbrev pub HasNoOwnForm : Operator → Type 0
HasNoOwnForm op =
    ((names : List (List ℕ)) → op ≡ Let names → ⊥)
    × ((name : List ℕ) → op ≡ Var name → ⊥)
    × ((pieces : List FormatPiece) → op ≡ Format pieces → ⊥)

plain_in : (op : Operator) (ss : List Simple) (ts : List Tree) (want : Want) (scope : KindScope) → HasNoOwnForm op → plain_choices op ss ts want scope ≡ choices_in op ss ts want scope
plain_in (Let names) ss ts want scope p = absurd (p.0 names refl)
plain_in (Var name) ss ts want scope p = absurd (p.1 name refl)
plain_in (Format pieces) ss ts want scope p = absurd (p.2 pieces refl)
plain_in Get ss ts want scope p = refl
plain_in _ ss ts want scope p = refl

module _ (c : SimpleContext) (es : List Expr) where
  pub inside_plain : (js : List Json) → HasNoOwnForm c.op.now → plain_at c es js ≡ inside_at c es js
  inside_plain js p = plain_in c.op.now (simples_of es) (items_view js) c.want (scope_of c.scope.now) p

  -- ---- a node as it is written

  pub node_inside : (js : List Json) → false ≡ is_global_name (head_name (trees_of (items_view js))) → inside_at c es js ≡ node_at c es (list (trees_of (items_view js)))
  node_inside js h =
      ap (λ ts. choices_in c.op.now (simples_of es) ts c.want (scope_of c.scope.now)) (sym (listed_again (items_view js)))
      ∙ ap (λ b. if b then as_it_is c.want (global_element c.want (list (trees_of (items_view js)))) else choices_in c.op.now (simples_of es) (listed (trees_of (items_view js))) c.want (scope_of c.scope.now)) h
