-- Inputs of stops while they are read.
use Rattle.std.proofs.Common.{◌≡◌, ℕ, ◌+◌, ◌-◌, ◌<◌, ◌≤◌, ℤ, pos, List, [], ◌∷◌, ◌++◌, length, get_or, refl, ap, ◌∙◌, arith, true, false, inl, inr}
use Rattle.std.proofs.lemmas.Bool.{cases_lt, leb-true}
use Rattle.std.proofs.lemmas.Int.{ints}
use Rattle.std.proofs.lemmas.List.{get_or_default}
use Rattle.std.proofs.lemmas.List.Quantifiers.{all_pairs_push}
use Rattle.std.specs.Prelude.{Bool, ◌&&◌, nat_le, nat_eq, ◌%◌, ◌<ℤ◌, Option, Some, None, Result, Ok, Err}
use Rattle.interpolate_fixed.specs.Places.{last_of}
use Rattle.interpolate_fixed.specs.PlaceFacts.{IsAscending}
use Rattle.decimal_json.specs.Tree.{Tree, null, boolean, number, text, list, object}
use Rattle.decimal_json.specs.View.{tree_of, trees}
use Rattle.decimal_json.specs.declared.tree.Json.{Json}
use Rattle.fixed_num.specs.Decimal.{read_text}
use Rattle.expr_syntax.proofs.InputLaws.{after_input, past_input, skipped_input}
use Rattle.expr_syntax.specs.declared.fault.SynCode.{SynCode}
use Rattle.expr_syntax.specs.declared.names.Name.{Name}
use Rattle.expr_syntax.specs.declared.names.Name.TheVariants.{Interpolate}
use Rattle.expr_syntax.specs.declared.rows.ElementLayout.TheVariants.{Ramp}
use Rattle.expr_syntax.specs.Elements.{taken}
use Rattle.expr_syntax.specs.Names.{row}
use Rattle.expr_syntax.specs.Rows.{allows, is_input}
use Rattle.expr_syntax.specs.Stops.{IsAboveLast}
use Rattle.expr_syntax.specs.Parts.{and_input, inputs_of, steps_up, value_in}

-- inputs that ascend still do with one above the last
pub ascending_push : (ys : List ℤ) (z : ℤ) → IsAscending ys → IsAboveLast z ys → IsAscending (ys ++ z ∷ [])
ascending_push ys z rising above = all_pairs_push (λ a b. a <ℤ b) ys z rising below
  where
    below : (k : ℕ) (d : ℤ) → k < length ys → get_or ys k d <ℤ z
    below k d within =
        let last = above (omega arith) in
        let same : get_or ys k d ≡ get_or ys k (pos 0) = get_or_default ys k d (pos 0) within in
        rw same (elim (cases_lt k (length ys - 1)) [
          | inl before ↦ let less = rising k (length ys - 1) (pos 0) before (omega arith) in omega (arith, ints)
          | inr not_before ↦ let end : k ≡ length ys - 1 = omega arith in rw end last
        ])

-- The number is the last of the inputs, or there is neither. Nothing is known after a number past the bound.
abbrev pub IsLast : Bool → Option ℤ → List ℤ → Type 0
IsLast true before ys = Unit {0}
IsLast false (Some y) ys = last_of ys ≡ y
IsLast false None ys = length ys ≡ 0

pub above_last : (before : Option ℤ) (ys : List ℤ) (z : ℤ) → IsLast false before ys → steps_up before (Some z) ≡ true → IsAboveLast z ys
above_last (Some y) ys z same up some = rw same (omega (arith, ints, up))
above_last None ys z none up some = absurd (omega arith)

end_of : (ys : List ℤ) (z : ℤ) → get_or (ys ++ z ∷ []) (length ys) (pos 0) ≡ z
end_of [] z = refl
end_of (y ∷ ys) z = end_of ys z

pub last_push : (ys : List ℤ) (z : ℤ) → last_of (ys ++ z ∷ []) ≡ z
last_push ys z =
    let place : length (ys ++ z ∷ []) - 1 ≡ length ys = omega (arith, length_push ys z) in
    ap (λ k. get_or (ys ++ z ∷ []) k (pos 0)) place ∙ end_of ys z
  where
    length_push : (ys : List ℤ) (z : ℤ) → length (ys ++ z ∷ []) ≡ length ys + 1
    length_push [] z = refl
    length_push (y ∷ ys) z = let h = length_push ys z in omega (arith, h)

and_some : (v : Option ℤ) (later : Result (List ℤ) SynCode) (zs : List ℤ) → Ok zs ≡ and_input v later → 0 < length zs
and_some (Some z) (Ok ys) zs h = let q = ap (λ r. length_in r) h in omega arith
  where
    length_in : Result (List ℤ) SynCode → ℕ
    length_in (Ok xs) = length xs
    length_in (Err c) = 0
and_some None (Ok ys) zs h = absurd (cc)
and_some (Some z) (Err c) zs h = absurd (cc)
and_some None (Err c) zs h = absurd (cc)

-- where inputs begin with an element, there is one
pub inputs_some : (t : Tree) (ts : List Tree) (zs : List ℤ) → Ok zs ≡ inputs_of None (t ∷ ts) → 0 < length zs
inputs_some (number n) ts zs h = and_some (value_in (read_text n)) (inputs_of (value_in (read_text n)) ts) zs h
inputs_some null ts zs h = absurd (cc)
inputs_some (boolean b) ts zs h = absurd (cc)
inputs_some (text s) ts zs h = absurd (cc)
inputs_some (list us) ts zs h = absurd (cc)
inputs_some (object fs) ts zs h = absurd (cc)

-- a node of four elements and the name has an input
pub ramp_inputs : (js : List Json) (zs : List ℤ) → 3 < length js → Ok zs ≡ inputs_of None (taken (λ n i. is_input i) (length js) 0 (trees js)) → 0 < length zs
ramp_inputs [] zs h = absurd (omega arith)
ramp_inputs (a ∷ []) zs h = absurd (omega arith)
ramp_inputs (a ∷ b ∷ []) zs h = absurd (omega arith)
ramp_inputs (a ∷ b ∷ c ∷ []) zs h = absurd (omega arith)
ramp_inputs (a ∷ b ∷ c ∷ d ∷ js) zs h = λ q. inputs_some (tree_of d) (taken (λ n i. is_input i) (length (a ∷ b ∷ c ∷ d ∷ js)) 4 (trees js)) zs q

left_true : (a b : Bool) → (a && b) ≡ true → a ≡ true
left_true true b h = refl
left_true false b h = h

-- an interpolation has at least four elements after its name
pub ramp_arity : (name : Name) (n : ℕ) → (row name).layout ≡ Ramp → allows (row name).arity (n - 1) ≡ true → 3 < n
ramp_arity Interpolate n layout h = let least : 4 ≤ n - 1 = leb-true 4 (n - 1) (left_true (nat_le 4 (n - 1)) (nat_eq ((n - 1) % 2) 0) h) in omega (arith, least)
ramp_arity _ n layout h = absurd (cc)

pub ruleset input_rules = (after_input, past_input, skipped_input, above_last, last_push)
