-- Items and arguments as lists.
use Rattle.std.proofs.Common.{◌≡◌, ◌<◌, ◌≤◌, ℕ, zero, suc, List, [], ◌∷◌, length, take, drop, get_or, refl, ap, sym, arith, option_map}
use Rattle.std.specs.Prelude.{Some, None}
use Rattle.std.specs.List.{slice_get}
use Rattle.decimal_json.specs.Tree.{Tree, trees_of}
use Rattle.decimal_json.specs.View.{tree_of, trees, items_view}
use Rattle.decimal_json.specs.declared.tree.Json.{Json}
use Rattle.expr_syntax.specs.Elements.{second}
use Rattle.expr_syntax.specs.Mentioned.{count}
use Rattle.expr_syntax.specs.TermView.{term_of, terms, weight}
use Rattle.expr_syntax.specs.declared.expression.Expr.{Expr}
use Rattle.style_simplify.specs.Simple.{choices, listed}
use Rattle.style_simplify.specs.View.{simples_of}

pub listed_again : (ts : List Tree) → listed (trees_of ts) ≡ ts
listed_again [] = refl
listed_again (t ∷ ts) = ap (λ us. t ∷ us) (listed_again ts)

-- there are as many as arguments
pub simples_count : (es : List Expr) → length (simples_of es) ≡ count (terms es)
simples_count [] = refl
simples_count (e ∷ es) = let h = simples_count es in omega arith

pub tree_got : (js : List Json) (i : ℕ) → option_map tree_of (slice_get js i) ≡ slice_get (items_view js) i
tree_got [] i = refl
tree_got (j ∷ js) zero = refl
tree_got (j ∷ js) (suc i) = tree_got js i

pub items_length : (js : List Json) → length (items_view js) ≡ length js
items_length [] = refl
items_length (j ∷ js) = ap suc (items_length js)

pub items_take : (n : ℕ) (js : List Json) → items_view (take n js) ≡ take n (items_view js)
items_take zero [] = refl
items_take zero (j ∷ js) = refl
items_take (suc n) [] = refl
items_take (suc n) (j ∷ js) = ap (λ ts. tree_of j ∷ ts) (items_take n js)

pub item_got : (js : List Json) (k : ℕ) (j : Json) → k < length js → j ≡ get_or js k j → slice_get (items_view js) k ≡ Some (tree_of j)
item_got [] k j h p = absurd (omega arith)
item_got (x ∷ js) zero j h p = ap (λ y. Some (tree_of y)) (sym p)
item_got (x ∷ js) (suc k) j h p = item_got js k j (omega arith) p

pub simples_length : (es : List Expr) → length (simples_of es) ≡ length es
simples_length [] = refl
simples_length (e ∷ es) = ap suc (simples_length es)

pub simples_take : (n : ℕ) (es : List Expr) → simples_of (take n es) ≡ take n (simples_of es)
simples_take zero [] = refl
simples_take zero (e ∷ es) = refl
simples_take (suc n) [] = refl
simples_take (suc n) (e ∷ es) = ap (λ ss. choices (term_of e) ∷ ss) (simples_take n es)

pub simples_drop : (n : ℕ) (es : List Expr) → simples_of (drop n es) ≡ drop n (simples_of es)
simples_drop zero [] = refl
simples_drop zero (e ∷ es) = refl
simples_drop (suc n) [] = refl
simples_drop (suc n) (e ∷ es) = simples_drop n es

-- an array of one item has no second
pub one_second : (js : List Json) → length js ≡ 1 → second (trees js) ≡ None
one_second [] h = absurd (omega (arith, h))
one_second (j ∷ []) h = refl
one_second (j ∷ k ∷ js) h = absurd (omega (arith, h))

-- the first arguments weigh no more than all, and the others neither
pub first_weight : (n : ℕ) (es : List Expr) → weight (take n es) ≤ weight es
first_weight zero es = omega arith
first_weight (suc n) [] = omega arith
first_weight (suc n) (e ∷ es) = omega (arith, first_weight n es)

pub other_weight : (n : ℕ) (es : List Expr) → weight (drop n es) ≤ weight es
other_weight zero es = omega arith
other_weight (suc n) [] = omega arith
other_weight (suc n) (e ∷ es) = omega (arith, other_weight n es)
