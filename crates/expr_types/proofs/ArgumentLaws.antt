-- Arguments of nodes: their paths, their typing one after the other, and those of a `let`.
use Rattle.std.specs.Prelude.{List, [], ◌∷◌, ◌++◌, Option, Some, None, Result, Ok, Err, take}
use Rattle.std.proofs.Common.{◌≡◌, ℕ, ◌+◌, ◌<◌, ◌≤◌, ◌∙◌, length, drop, get_or, drop-cons, ap, sym, refl, zero, suc, arith, subst}
use Rattle.decimal_json.specs.declared.paths.PathPart.{PathPart}
use Rattle.decimal_json.specs.declared.paths.PathPart.TheVariants as parts
use Rattle.prop_values.specs.declared.fault.FaultSet.{FaultSet}
use Rattle.prop_values.specs.declared.kinds.Kind.{Kind}
use Rattle.prop_values.specs.declared.kinds.Want.{Want}
use Rattle.expr_syntax.specs.TermSize.{nodes}
use Rattle.expr_syntax.specs.TermView.{term_of, weight}
use Rattle.expr_syntax.specs.declared.expression.Expr.{Expr}
use Rattle.expr_syntax.specs.declared.expression.Operator.{Operator}
use Rattle.expr_types.specs.ArgumentPaths.{element_at, key_at, with_key, argument_path}
use Rattle.expr_types.specs.LiteralView.{typings_of}
use Rattle.expr_types.specs.Typing.{TypedNodes, Typing, KindScope, typed_as, and_found, founds_of, argument_typed}
use Rattle.expr_types.specs.declared.fault.TypeFault.{TypeFault}

-- an option of `format` is a member of its element
pub key_path : (op : Operator) (m k : ℕ) (path : List PathPart) (element : ℕ) (key : List ℕ) → element ≡ element_at op m k → Some key ≡ key_at op k → (path ++ parts.Index element ∷ []) ++ parts.Key key ∷ [] ≡ argument_path op m k path
key_path op m k path element key at is = ap (λ e. (path ++ parts.Index e ∷ []) ++ parts.Key key ∷ []) at ∙ ap (λ o. with_key o (path ++ parts.Index (element_at op m k) ∷ [])) is

-- the argument of a place, and those after it
pub next_found : (op : Operator) (m k : ℕ) (es : List Expr) (e : Expr) (want : Want) (scope : KindScope) (path : List PathPart) → e ≡ get_or es k e → k < length es → founds_of op m k (typings_of (drop k es)) want scope path ≡ and_found (argument_typed op m k (typed_as (term_of e)) want scope path) (founds_of op m (k + 1) (typings_of (drop (k + 1) es)) want scope path)
next_found op m k es e want scope path is there =
    let one : suc k ≡ k + 1 = omega arith in
    let here : drop k es ≡ e ∷ drop (k + 1) es = subst (λ j. drop k es ≡ e ∷ drop j es) one (drop-cons es k e there ∙ ap (λ x. x ∷ drop (suc k) es) (sym is)) in
    ap (λ xs. founds_of op m k (typings_of xs) want scope path) here

-- the first arguments, and the others
pub first_typings : (n : ℕ) (es : List Expr) → typings_of (take n es) ≡ take n (typings_of es)
first_typings zero [] = refl
first_typings zero (e ∷ es) = refl
first_typings (suc n) [] = refl
first_typings (suc n) (e ∷ es) = ap (λ ts. typed_as (term_of e) ∷ ts) (first_typings n es)

pub other_typings : (n : ℕ) (es : List Expr) → typings_of (drop n es) ≡ drop n (typings_of es)
other_typings zero es = refl
other_typings (suc n) [] = refl
other_typings (suc n) (e ∷ es) = other_typings n es

pub typings_length : (es : List Expr) → length (typings_of es) ≡ length es
typings_length [] = refl
typings_length (e ∷ es) = ap suc (typings_length es)

pub first_weight : (n : ℕ) (es : List Expr) → weight (take n es) ≤ weight es
first_weight zero es = omega arith
first_weight (suc n) [] = omega arith
first_weight (suc n) (e ∷ es) = omega (arith, first_weight n es)

pub other_weight : (n : ℕ) (es : List Expr) → weight (drop n es) ≤ weight es
other_weight zero es = omega arith
other_weight (suc n) [] = omega arith
other_weight (suc n) (e ∷ es) = omega (arith, other_weight n es)

pub only_weight : (es : List Expr) (n : ℕ) (rest : List Expr) (e : Expr) → rest ≡ drop n es → 0 < length rest → e ≡ get_or rest 0 e → nodes (term_of e) ≤ weight es
only_weight es n [] e rest some is = absurd (omega (arith, some))
only_weight es n (x ∷ xs) e rest some is = rw is (omega (arith, other_weight n es, ap weight rest))

-- a list of one
pub only_is : (rest : List Expr) (e : Expr) → length rest ≡ 1 → e ≡ get_or rest 0 e → rest ≡ e ∷ []
only_is [] e one is = absurd (omega (arith, one))
only_is (x ∷ []) e one is = ap (λ y. y ∷ []) (sym is)
only_is (x ∷ y ∷ xs) e one is = absurd (omega (arith, one))
