-- Simplified elements one after another.
use Rattle.std.proofs.Common.{◌≡◌, ◌<◌, ◌≤◌, ℕ, zero, suc, List, [], ◌∷◌, ◌++◌, length, take, get_or, refl, ap, sym, append_assoc, arith}
use Rattle.std.specs.List.{slice_get}
use Rattle.std.specs.Prelude.{false, Option, Some, None}
use Rattle.prop_values.specs.declared.kinds.Kind.{Kind}
use Rattle.prop_values.specs.declared.kinds.Want.{Want}
use Rattle.expr_syntax.specs.declared.expression.Operator.{Operator}
use Rattle.expr_syntax.specs.declared.expression.Operator.TheVariants.{Case}
use Rattle.style_simplify.specs.ShorterNodes.{case_of, joined}
use Rattle.style_simplify.specs.SimpleElements.{SimpleElement, and_kind, node_of}
use Rattle.style_simplify.specs.View.{element_seen, elements_seen}
use Rattle.style_simplify.specs.declared.element.SimpleElement.{SimpleElement as CodeElement}

-- one element more
pub seen_end : (es : List CodeElement) (e : CodeElement) → elements_seen (es ++ e ∷ []) ≡ elements_seen es ++ element_seen e ∷ []
seen_end [] e = refl
seen_end (x ∷ es) e = ap (λ ys. element_seen x ∷ ys) (seen_end es e)

-- and what comes after it
pub seen_more : (es : List CodeElement) (e : CodeElement) (rest : List SimpleElement) → elements_seen (es ++ e ∷ []) ++ rest ≡ elements_seen es ++ element_seen e ∷ rest
seen_more [] e rest = refl
seen_more (x ∷ es) e rest = ap (λ ys. element_seen x ∷ ys) (seen_more es e rest)

-- ---- the kinds of arguments, with those of some before

abbrev pub after_kinds : List Kind → Option (List Kind) → Option (List Kind)
after_kinds ks (Some js) = Some (ks ++ js)
after_kinds ks None = None

pub no_kinds : (later : Option (List Kind)) → after_kinds [] later ≡ later
no_kinds (Some js) = refl
no_kinds None = refl

pub after_kind : (ks : List Kind) (k : Kind) (later : Option (List Kind)) → after_kinds (ks ++ k ∷ []) later ≡ after_kinds ks (and_kind (Some k) later)
after_kind ks k (Some js) = ap Some (append_assoc ks (k ∷ []) js)
after_kind ks k None = refl

-- ---- elements by their places

pub seen_length : (es : List CodeElement) → length (elements_seen es) ≡ length es
seen_length [] = refl
seen_length (e ∷ es) = ap suc (seen_length es)

pub seen_take : (n : ℕ) (es : List CodeElement) → elements_seen (take n es) ≡ take n (elements_seen es)
seen_take zero [] = refl
seen_take zero (e ∷ es) = refl
seen_take (suc n) [] = refl
seen_take (suc n) (e ∷ es) = ap (λ ys. element_seen e ∷ ys) (seen_take n es)

pub seen_got : (es : List CodeElement) (k : ℕ) (e : CodeElement) → k < length es → e ≡ get_or es k e → slice_get (elements_seen es) k ≡ Some (element_seen e)
seen_got [] k e h p = absurd (omega arith)
seen_got (x ∷ es) zero e h p = ap (λ y. Some (element_seen y)) (sym p)
seen_got (x ∷ es) (suc k) e h p = seen_got es k e (omega arith) p

-- ---- two elements and more

pub joined_many : (op : Operator) (want : Want) (head : SimpleElement) (es : List CodeElement) → 2 ≤ length es → node_of op want false (head ∷ elements_seen es) ≡ joined op want head (elements_seen es)
joined_many op want head [] h = absurd (omega arith)
joined_many op want head (e ∷ []) h = absurd (omega arith)
joined_many op want head (e ∷ f ∷ es) h = refl

pub case_many : (want : Want) (head : SimpleElement) (es : List CodeElement) → 2 ≤ length es → node_of Case want false (head ∷ elements_seen es) ≡ case_of want head (elements_seen es)
case_many want head [] h = absurd (omega arith)
case_many want head (e ∷ []) h = absurd (omega arith)
case_many want head (e ∷ f ∷ es) h = refl
