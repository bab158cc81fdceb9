-- Two elements, where there are just two, by the length of a list.
use Rattle.std.specs.Prelude.{◌≡◌, ℕ, ◌≤◌, List, [], ◌∷◌, length, get_or, true, false, not, Option, Some, None}
use Rattle.std.proofs.Common.{refl, sym, ap, ◌∙◌, arith}
use Rattle.decimal_json.specs.Tree.{Tree, fields_of}
use Rattle.decimal_json.specs.View.{fields, tree_of, trees}
use Rattle.decimal_json.specs.declared.tree.Json.{Json}
use Rattle.decimal_json.specs.declared.tree.Member.{Member}
use Rattle.finding_sentences.specs.FunctionSentence.{has_two_members, is_empty}
use Rattle.finding_sentences.specs.Pairs.{pair_of}

pub none_of_one : (js : List Json) → length js ≡ 1 → pair_of (trees js) ≡ None
none_of_one [] h = refl
none_of_one (j ∷ []) h = refl
none_of_one (j ∷ k ∷ js) h = absurd (omega (arith, h))

pub none_of_many : (js : List Json) → 3 ≤ length js → pair_of (trees js) ≡ None
none_of_many [] h = refl
none_of_many (j ∷ []) h = refl
none_of_many (j ∷ k ∷ []) h = absurd (omega (arith, h))
none_of_many (j ∷ k ∷ l ∷ js) h = refl

pub both_of_two : (js : List Json) (a b : Json) → length js ≡ 2 → a ≡ get_or js 0 a → b ≡ get_or js 1 b → pair_of (trees js) ≡ Some (tree_of a, tree_of b)
both_of_two [] a b h p q = absurd (omega (arith, h))
both_of_two (j ∷ []) a b h p q = absurd (omega (arith, h))
both_of_two (j ∷ k ∷ []) a b h p q = ap (λ (x : Json). Some (tree_of x, tree_of k)) (sym p) ∙ ap (λ (x : Json). Some (tree_of a, tree_of x)) (sym q)
both_of_two (j ∷ k ∷ l ∷ js) a b h p q = absurd (omega (arith, h))

pub not_of_one : (ms : List Member) → length ms ≡ 1 → has_two_members (fields ms) ≡ false
not_of_one [] h = refl
not_of_one (m ∷ []) h = refl
not_of_one (m ∷ n ∷ ms) h = absurd (omega (arith, h))

pub two_of_two : (ms : List Member) → length ms ≡ 2 → has_two_members (fields ms) ≡ true
two_of_two [] h = absurd (omega (arith, h))
two_of_two (m ∷ []) h = absurd (omega (arith, h))
two_of_two (m ∷ n ∷ []) h = refl
two_of_two (m ∷ n ∷ o ∷ ms) h = absurd (omega (arith, h))

pub not_of_many : (ms : List Member) → 3 ≤ length ms → has_two_members (fields ms) ≡ false
not_of_many [] h = refl
not_of_many (m ∷ []) h = refl
not_of_many (m ∷ n ∷ []) h = absurd (omega (arith, h))
not_of_many (m ∷ n ∷ o ∷ ms) h = refl

pub some_items : (js : List Json) → 1 ≤ length js → not (is_empty (trees js)) ≡ true
some_items [] h = absurd (omega (arith, h))
some_items (j ∷ js) h = refl
