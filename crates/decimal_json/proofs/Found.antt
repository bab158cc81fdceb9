-- The character at the front of some bytes, by the tests of the bytes in turn.
use Rattle.std.proofs.Common.{◌≡◌, ℕ, ◌<◌, ◌≤◌, List, [], ◌∷◌, length, Bool, true, false, sym, ap, ◌∙◌, arith, inl, inr}
use Rattle.std.specs.Prelude.{nat_lt, ◌&&◌, ◌⊎◌, slice_index}
use Rattle.std.proofs.lemmas.Bool.{and_parts, both_ways, cases_lt}
use Rattle.decimal_json.specs.declared.chars.CharFront.TheVariants.{Whole, Cut}
use Rattle.decimal_json.specs.Chars.{begins_char, goes_on, may_follow, IsFound}
use Rattle.decimal_json.proofs.Utf8.{whole_two, whole_three, whole_four, cut_none, cut_one, cut_two, cut_three}

begins_bounds : (c : ℕ) → begins_char c ≡ true → (194 ≤ c) × (c ≤ 244)
begins_bounds c e = (grind arith, grind arith)

begins_not : (c : ℕ) → begins_char c ≡ false → (c < 194) ⊎ (244 < c)
begins_not c e = elim (cases_lt c 194) [ inl h ↦ inl h | inr h ↦ inr (let k : 244 < c = grind arith in k) ]

-- Whether a byte that passes the test is at a place.
abbrev pub has : (ℕ → Bool) → ℕ → List ℕ → Bool
has p at b = nat_lt at (length b) && p (slice_index b at)

is_less : (m n : ℕ) → m < n → nat_lt m n ≡ true
is_less m n h = grind arith

not_less : (m n : ℕ) → n ≤ m → nat_lt m n ≡ false
not_less m n h = grind arith

-- where it does not pass, the byte there is refused
refused : (p : ℕ → Bool) (at : ℕ) (b : List ℕ) → has p at b ≡ false → at < length b → p (slice_index b at) ≡ false
refused p at b e h = sym (ap (λ t. t && p (slice_index b at)) (is_less at (length b) h)) ∙ e

within : (p : ℕ → Bool) (at : ℕ) (b : List ℕ) → has p at b ≡ true → at < length b
within p at b e = elim (cases_lt at (length b)) [
  | inl h ↦ h
  | inr h ↦ absurd (both_ways (nat_lt at (length b)) (not_less at (length b) h) (and_parts (nat_lt at (length b)) (p (slice_index b at)) e).0)
]

passed : (p : ℕ → Bool) (at : ℕ) (b : List ℕ) → has p at b ≡ true → p (slice_index b at) ≡ true
passed p at b e = (and_parts (nat_lt at (length b)) (p (slice_index b at)) e).1

pub found_none : (b : List ℕ) → 128 ≤ slice_index b 0 → begins_char (slice_index b 0) ≡ false → IsFound b (Cut 0)
found_none [] h e = absurd (omega arith)
found_none (x ∷ b) h e = (omega arith, cut_none (x ∷ b) (λ c rest s. let same : x ≡ c = cc in (omega arith, begins_not c (sym (ap begins_char same) ∙ e))))

pub found_one : (b : List ℕ) → 0 < length b → begins_char (slice_index b 0) ≡ true → has (may_follow (slice_index b 0)) 1 b ≡ false → IsFound b (Cut 1)
found_one [] some h e = absurd (omega arith)
found_one (x ∷ []) some h e = let k = begins_bounds x h in (omega arith, cut_one x [] k.0 k.1 (λ c rest s. absurd (cc)))
found_one (x ∷ y ∷ b) some h e =
    let k = begins_bounds x h in
    let bad : may_follow x y ≡ false = refused (may_follow x) 1 (x ∷ y ∷ b) e (omega arith) in
    (omega arith, cut_one x (y ∷ b) k.0 k.1 (λ c rest s. let same : y ≡ c = cc in sym (ap (may_follow x) same) ∙ bad))

pub found_two : (b : List ℕ) → begins_char (slice_index b 0) ≡ true → has (may_follow (slice_index b 0)) 1 b ≡ true → slice_index b 0 < 224 → IsFound b (Whole 2)
found_two [] h e l = absurd (let k = within (may_follow 0) 1 [] e in omega arith)
found_two (x ∷ []) h e l = absurd (let k = within (may_follow x) 1 (x ∷ []) e in omega arith)
found_two (x ∷ y ∷ b) h e l = (omega arith, omega arith, whole_two x y (begins_bounds x h).0 l (passed (may_follow x) 1 (x ∷ y ∷ b) e))

pub found_cut_two : (b : List ℕ) → begins_char (slice_index b 0) ≡ true → has (may_follow (slice_index b 0)) 1 b ≡ true → 224 ≤ slice_index b 0 → has goes_on 2 b ≡ false → IsFound b (Cut 2)
found_cut_two [] h e l n = absurd (omega arith)
found_cut_two (x ∷ []) h e l n = absurd (let k = within (may_follow x) 1 (x ∷ []) e in omega arith)
found_cut_two (x ∷ y ∷ []) h e l n = (omega arith, cut_two x y [] l (begins_bounds x h).1 (passed (may_follow x) 1 (x ∷ y ∷ []) e) (λ c rest s. absurd (cc)))
found_cut_two (x ∷ y ∷ z ∷ b) h e l n =
    let bad : goes_on z ≡ false = refused goes_on 2 (x ∷ y ∷ z ∷ b) n (omega arith) in
    (omega arith, cut_two x y (z ∷ b) l (begins_bounds x h).1 (passed (may_follow x) 1 (x ∷ y ∷ z ∷ b) e) (λ c rest s. let same : z ≡ c = cc in sym (ap goes_on same) ∙ bad))

pub found_three : (b : List ℕ) → begins_char (slice_index b 0) ≡ true → has (may_follow (slice_index b 0)) 1 b ≡ true → 224 ≤ slice_index b 0 → has goes_on 2 b ≡ true → slice_index b 0 < 240 → IsFound b (Whole 3)
found_three [] h e l n m = absurd (omega arith)
found_three (x ∷ []) h e l n m = absurd (let k = within goes_on 2 (x ∷ []) n in omega arith)
found_three (x ∷ y ∷ []) h e l n m = absurd (let k = within goes_on 2 (x ∷ y ∷ []) n in omega arith)
found_three (x ∷ y ∷ z ∷ b) h e l n m = (omega arith, omega arith, whole_three x y z l m (passed (may_follow x) 1 (x ∷ y ∷ z ∷ b) e) (passed goes_on 2 (x ∷ y ∷ z ∷ b) n))

pub found_cut_three : (b : List ℕ) → begins_char (slice_index b 0) ≡ true → has (may_follow (slice_index b 0)) 1 b ≡ true → has goes_on 2 b ≡ true → 240 ≤ slice_index b 0 → has goes_on 3 b ≡ false → IsFound b (Cut 3)
found_cut_three [] h e n l o = absurd (omega arith)
found_cut_three (x ∷ []) h e n l o = absurd (let k = within goes_on 2 (x ∷ []) n in omega arith)
found_cut_three (x ∷ y ∷ []) h e n l o = absurd (let k = within goes_on 2 (x ∷ y ∷ []) n in omega arith)
found_cut_three (x ∷ y ∷ z ∷ []) h e n l o = (omega arith, cut_three x y z [] l (begins_bounds x h).1 (passed (may_follow x) 1 (x ∷ y ∷ z ∷ []) e) (passed goes_on 2 (x ∷ y ∷ z ∷ []) n) (λ c rest s. absurd (cc)))
found_cut_three (x ∷ y ∷ z ∷ w ∷ b) h e n l o =
    let bad : goes_on w ≡ false = refused goes_on 3 (x ∷ y ∷ z ∷ w ∷ b) o (omega arith) in
    (omega arith, cut_three x y z (w ∷ b) l (begins_bounds x h).1 (passed (may_follow x) 1 (x ∷ y ∷ z ∷ w ∷ b) e) (passed goes_on 2 (x ∷ y ∷ z ∷ w ∷ b) n) (λ c rest s. let same : w ≡ c = cc in sym (ap goes_on same) ∙ bad))

pub found_four : (b : List ℕ) → begins_char (slice_index b 0) ≡ true → has (may_follow (slice_index b 0)) 1 b ≡ true → has goes_on 2 b ≡ true → 240 ≤ slice_index b 0 → has goes_on 3 b ≡ true → IsFound b (Whole 4)
found_four [] h e n l o = absurd (omega arith)
found_four (x ∷ []) h e n l o = absurd (let k = within goes_on 3 (x ∷ []) o in omega arith)
found_four (x ∷ y ∷ []) h e n l o = absurd (let k = within goes_on 3 (x ∷ y ∷ []) o in omega arith)
found_four (x ∷ y ∷ z ∷ []) h e n l o = absurd (let k = within goes_on 3 (x ∷ y ∷ z ∷ []) o in omega arith)
found_four (x ∷ y ∷ z ∷ w ∷ b) h e n l o = (omega arith, omega arith, whole_four x y z w l (begins_bounds x h).1 (passed (may_follow x) 1 (x ∷ y ∷ z ∷ w ∷ b) e) (passed goes_on 2 (x ∷ y ∷ z ∷ w ∷ b) n) (passed goes_on 3 (x ∷ y ∷ z ∷ w ∷ b) o))
