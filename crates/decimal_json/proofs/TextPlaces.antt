-- The places within an escape.
use Rattle.std.proofs.Common.{◌≡◌, ◌≢◌, ℕ, ◌<◌, ◌≤◌, List, [], ◌∷◌, ◌++◌, take, Bool, true, false, refl, sym, ap, ◌∙◌, subst, arith, inl, inr}
use Rattle.std.specs.Prelude.{Option, Some, None, ◌⊎◌, ◌==◌, if◌then◌else◌}
use Rattle.std.proofs.lemmas.Bool.{both_ways, cases_lt}
use Rattle.json_tokens.specs.declared.kind.JsonKind.TheVariants.{Syntax, LoneSurrogate}
use Rattle.json_tokens.specs.RunLengths.{first_of}
use Rattle.json_tokens.specs.Rules.{Rules, all_rules}
use Rattle.json_tokens.specs.Readers.{CanEnd, IsStop}
use Rattle.json_tokens.specs.TextToken.{hex_value, letter_unit, by_letter, by_digits, is_low}
use Rattle.decimal_json.specs.Follows.{is_due, FollowsLong, StopsText}
use Rattle.decimal_json.specs.TextParts.{least_digit, most_digit}
use Rattle.decimal_json.proofs.Escapes.{unit_ends, loose_ends, digit_small, same_digit, no_value, not_u, fits_two, unit_fits, unit_of, low_true, low_false, Digits, digits_of, IsPlace, low_code, low_escape, upto_or_more}
use Rattle.decimal_json.proofs.Turns.{syntax_turn, lone_turn}
use Rattle.decimal_json.proofs.Firsts.{BehindSolidus, a_letter, four_digits, behind_solidus}

beyond_digits : (c d : ℕ) → hex_value c ≡ Some d → (d < 0) ⊎ (15 < d) → ⊥
beyond_digits c d h out = let k = digit_small c d h in elim out [ inl less ↦ omega arith | inr more ↦ omega arith ]

-- ---- the first digit
begins_one : (due : Option ℕ) (bound : ℕ) (r : Rules) → CanEnd (FollowsLong due bound) r (92 ∷ 117 ∷ [])
begins_one None bound r = unit_ends None bound r (92 ∷ 117 ∷ []) (48 ∷ 48 ∷ 48 ∷ 48 ∷ []) (92 ∷ 117 ∷ 48 ∷ 48 ∷ 48 ∷ 48 ∷ []) 0 refl (by_digits 48 48 48 48 0 0 0 0 refl refl refl refl) refl
begins_one (Some high) bound r = unit_ends (Some high) bound r (92 ∷ 117 ∷ []) (100 ∷ 99 ∷ 48 ∷ 48 ∷ []) low_code 56320 refl low_escape refl

lone_one : (due : Option ℕ) (c d : ℕ) → hex_value c ≡ Some d → (d < least_digit (is_due due) 0) ⊎ (most_digit (is_due due) 0 0 < d)
    → (r : Rules) (more : List ℕ) → r.surrogate ≡ true → Digits r (is_due due) (c ∷ more) → ⊥
lone_one None c d h out r more on k = beyond_digits c d h out
lone_one (Some high) c d h out r more on k =
    let at : c ≡ k.c3 = cc (k.bytes) in
    let same : d ≡ k.d3 = same_digit c k.c3 d k.d3 at h k.h3 in
    let other : (k.d3 < 13) ⊎ ((14 ≤ k.d3) ⊎ (k.d2 < 12)) = elim out [ inl less ↦ inl (omega arith) | inr above ↦ inr (inl (omega arith)) ] in
    both_ways (is_low (unit_of k.d3 k.d2 k.d1 k.d0)) (low_false k.d3 k.d2 k.d1 k.d0 other (upto_or_more k.d3) (digit_small k.c2 k.d2 k.h2) (digit_small k.c1 k.d1 k.h1) (digit_small k.c0 k.d0 k.h0)) (k.fits on)

pub place_one : (due : Option ℕ) → IsPlace due (92 ∷ 117 ∷ []) (least_digit (is_due due) 0) (most_digit (is_due due) 0 0)
place_one due = record {
  begins = λ bound r. begins_one due bound r;
  ended = λ r v q f. let k = digits_of due r v [] q f in cc (k.bytes);
  other = λ r c h v more q f. let k = digits_of due r v (c ∷ more) q f in let at : c ≡ k.c3 = cc (k.bytes) in no_value c k.c3 k.d3 at h k.h3;
  lone = λ r c d h out on v more q f. lone_one due c d h out r more on (digits_of due r v (c ∷ more) q f);
  loose = λ bound c d h out. loose_ends due bound (92 ∷ 117 ∷ c ∷ []) (48 ∷ 48 ∷ 48 ∷ []) (92 ∷ 117 ∷ c ∷ 48 ∷ 48 ∷ 48 ∷ []) (unit_of d 0 0 0) refl (by_digits c 48 48 48 d 0 0 0 h refl refl refl);
}

-- ---- the second digit
begins_two : (due : Option ℕ) (c3 d3 : ℕ) → hex_value c3 ≡ Some d3 → least_digit (is_due due) 0 ≤ d3 → d3 ≤ most_digit (is_due due) 0 0 → (bound : ℕ) (r : Rules) → CanEnd (FollowsLong due bound) r (92 ∷ 117 ∷ c3 ∷ [])
begins_two None c3 d3 h l m bound r =
    unit_ends None bound r (92 ∷ 117 ∷ c3 ∷ []) (48 ∷ 48 ∷ 48 ∷ []) (92 ∷ 117 ∷ c3 ∷ 48 ∷ 48 ∷ 48 ∷ []) (unit_of d3 0 0 0) refl (by_digits c3 48 48 48 d3 0 0 0 h refl refl refl) (unit_fits false d3 0 0 0 (inr (inr (omega arith))) (omega arith) (omega arith) (omega arith))
begins_two (Some high) c3 d3 h l m bound r =
    unit_ends (Some high) bound r (92 ∷ 117 ∷ c3 ∷ []) (99 ∷ 48 ∷ 48 ∷ []) (92 ∷ 117 ∷ c3 ∷ 99 ∷ 48 ∷ 48 ∷ []) (unit_of d3 12 0 0) refl (by_digits c3 99 48 48 d3 12 0 0 h refl refl refl) (unit_fits true d3 12 0 0 (omega arith, omega arith) (omega arith) (omega arith) (omega arith))

most_alone : (d3 : ℕ) (leads : Bool) → (d3 == 13) ≡ leads → (d2 : ℕ) → (if leads then 11 else 15) < d2 → d2 < 16 → (d3 ≡ 13) × (12 ≤ d2)
most_alone d3 true e d2 h k = (grind arith, omega arith)
most_alone d3 false e d2 h k = absurd (omega arith)

lone_two : (due : Option ℕ) (c3 d3 c d : ℕ) → hex_value c3 ≡ Some d3 → least_digit (is_due due) 0 ≤ d3 → d3 ≤ most_digit (is_due due) 0 0 → hex_value c ≡ Some d
    → (d < least_digit (is_due due) 1) ⊎ (most_digit (is_due due) 1 d3 < d) → (r : Rules) (more : List ℕ) → r.surrogate ≡ true → Digits r (is_due due) (c3 ∷ c ∷ more) → ⊥
lone_two None c3 d3 c d h3 l m h out r more on k =
    let at3 : c3 ≡ k.c3 = cc (k.bytes) in
    let at : c ≡ k.c2 = cc (k.bytes) in
    let same3 : d3 ≡ k.d3 = same_digit c3 k.c3 d3 k.d3 at3 h3 k.h3 in
    let same : d ≡ k.d2 = same_digit c k.c2 d k.d2 at h k.h2 in
    let small = digit_small c d h in
    let high : (d3 ≡ 13) × (12 ≤ d) = elim out [ inl less ↦ absurd (omega arith) | inr above ↦ most_alone d3 (d3 == 13) refl d above small ] in
    both_ways (is_low (unit_of k.d3 k.d2 k.d1 k.d0)) (k.fits on) (low_true k.d3 k.d2 k.d1 k.d0 (sym same3 ∙ high.0) (omega (arith, high.1)) (digit_small k.c2 k.d2 k.h2) (digit_small k.c1 k.d1 k.h1) (digit_small k.c0 k.d0 k.h0))
lone_two (Some high) c3 d3 c d h3 l m h out r more on k =
    let at : c ≡ k.c2 = cc (k.bytes) in
    let same : d ≡ k.d2 = same_digit c k.c2 d k.d2 at h k.h2 in
    let small = digit_small c d h in
    let less : k.d2 < 12 = elim out [ inl less ↦ omega arith | inr above ↦ absurd (omega arith) ] in
    both_ways (is_low (unit_of k.d3 k.d2 k.d1 k.d0)) (low_false k.d3 k.d2 k.d1 k.d0 (inr (inr less)) (upto_or_more k.d3) (digit_small k.c2 k.d2 k.h2) (digit_small k.c1 k.d1 k.h1) (digit_small k.c0 k.d0 k.h0)) (k.fits on)

pub place_two : (due : Option ℕ) (c3 d3 : ℕ) → hex_value c3 ≡ Some d3 → least_digit (is_due due) 0 ≤ d3 → d3 ≤ most_digit (is_due due) 0 0 → IsPlace due (92 ∷ 117 ∷ c3 ∷ []) (least_digit (is_due due) 1) (most_digit (is_due due) 1 d3)
place_two due c3 d3 h3 l m = record {
  begins = λ bound r. begins_two due c3 d3 h3 l m bound r;
  ended = λ r v q f. let k = digits_of due r v (c3 ∷ []) q f in cc (k.bytes);
  other = λ r c h v more q f. let k = digits_of due r v (c3 ∷ c ∷ more) q f in let at : c ≡ k.c2 = cc (k.bytes) in no_value c k.c2 k.d2 at h k.h2;
  lone = λ r c d h out on v more q f. lone_two due c3 d3 c d h3 l m h out r more on (digits_of due r v (c3 ∷ c ∷ more) q f);
  loose = λ bound c d h out. loose_ends due bound (92 ∷ 117 ∷ c3 ∷ c ∷ []) (48 ∷ 48 ∷ []) (92 ∷ 117 ∷ c3 ∷ c ∷ 48 ∷ 48 ∷ []) (unit_of d3 d 0 0) refl (by_digits c3 c 48 48 d3 d 0 0 h3 h refl refl);
}

-- what the second digit leaves fits
pub two_fit : (due : Option ℕ) (d3 d2 : ℕ) → least_digit (is_due due) 0 ≤ d3 → d3 ≤ most_digit (is_due due) 0 0 → least_digit (is_due due) 1 ≤ d2 → d2 ≤ most_digit (is_due due) 1 d3 → fits_two (is_due due) d3 d2
two_fit None d3 d2 l m n o = two_alone (d3 == 13) refl o
  where
    two_alone : (leads : Bool) → (d3 == 13) ≡ leads → d2 ≤ (if leads then 11 else 15) → fits_two false d3 d2
    two_alone true e h = inr (inr (omega arith))
    two_alone false e h = let other : d3 ≢ 13 = λ s. both_ways (d3 == 13) e (rw s refl) in elim (cases_lt d3 13) [ inl below ↦ inl below | inr above ↦ inr (inl (omega arith)) ]
two_fit (Some high) d3 d2 l m n o = (omega arith, omega arith)

-- ---- the third and the fourth
pub place_three : (due : Option ℕ) (c3 c2 d3 d2 : ℕ) → hex_value c3 ≡ Some d3 → hex_value c2 ≡ Some d2 → fits_two (is_due due) d3 d2 → IsPlace due (92 ∷ 117 ∷ c3 ∷ c2 ∷ []) 0 15
place_three due c3 c2 d3 d2 h3 h2 fits = record {
  begins = λ bound r. unit_ends due bound r (92 ∷ 117 ∷ c3 ∷ c2 ∷ []) (48 ∷ 48 ∷ []) (92 ∷ 117 ∷ c3 ∷ c2 ∷ 48 ∷ 48 ∷ []) (unit_of d3 d2 0 0) refl (by_digits c3 c2 48 48 d3 d2 0 0 h3 h2 refl refl) (unit_fits (is_due due) d3 d2 0 0 fits (digit_small c2 d2 h2) (omega arith) (omega arith));
  ended = λ r v q f. let k = digits_of due r v (c3 ∷ c2 ∷ []) q f in cc (k.bytes);
  other = λ r c h v more q f. let k = digits_of due r v (c3 ∷ c2 ∷ c ∷ more) q f in let at : c ≡ k.c1 = cc (k.bytes) in no_value c k.c1 k.d1 at h k.h1;
  lone = λ r c d h out on v more q f. beyond_digits c d h out;
  loose = λ bound c d h out. absurd (beyond_digits c d h out);
}

pub place_four : (due : Option ℕ) (c3 c2 c1 d3 d2 d1 : ℕ) → hex_value c3 ≡ Some d3 → hex_value c2 ≡ Some d2 → hex_value c1 ≡ Some d1 → fits_two (is_due due) d3 d2 → IsPlace due (92 ∷ 117 ∷ c3 ∷ c2 ∷ c1 ∷ []) 0 15
place_four due c3 c2 c1 d3 d2 d1 h3 h2 h1 fits = record {
  begins = λ bound r. unit_ends due bound r (92 ∷ 117 ∷ c3 ∷ c2 ∷ c1 ∷ []) (48 ∷ []) (92 ∷ 117 ∷ c3 ∷ c2 ∷ c1 ∷ 48 ∷ []) (unit_of d3 d2 d1 0) refl (by_digits c3 c2 c1 48 d3 d2 d1 0 h3 h2 h1 refl) (unit_fits (is_due due) d3 d2 d1 0 fits (digit_small c2 d2 h2) (digit_small c1 d1 h1) (omega arith));
  ended = λ r v q f. let k = digits_of due r v (c3 ∷ c2 ∷ c1 ∷ []) q f in cc (k.bytes);
  other = λ r c h v more q f. let k = digits_of due r v (c3 ∷ c2 ∷ c1 ∷ c ∷ more) q f in let at : c ≡ k.c0 = cc (k.bytes) in no_value c k.c0 k.d0 at h k.h0;
  lone = λ r c d h out on v more q f. beyond_digits c d h out;
  loose = λ bound c d h out. absurd (beyond_digits c d h out);
}

-- ---- after the reverse solidus
pub split_first : (b : List ℕ) (c : ℕ) → first_of b ≡ Some c → (rest : List ℕ) × (b ≡ c ∷ rest)
split_first [] c e = cc
split_first (d ∷ b) c e = (b, cc)

pub took_one : (b front left : List ℕ) (c : ℕ) → first_of b ≡ Some c → b ≡ front ++ left → front ≡ take 1 b → b ≡ c ∷ left
took_one [] front left c e s t = cc
took_one (d ∷ b) front left c e s t = let one : front ≡ d ∷ [] = t in let same : d ≡ c = cc in s ∙ ap (λ w. w ++ left) one ∙ ap (λ w. w ∷ left) same

begins_solidus : (due : Option ℕ) (bound : ℕ) (r : Rules) → CanEnd (FollowsLong due bound) r (92 ∷ [])
begins_solidus None bound r = unit_ends None bound r (92 ∷ []) (110 ∷ []) (92 ∷ 110 ∷ []) 10 refl (by_letter 110 10 refl) refl
begins_solidus (Some high) bound r = unit_ends (Some high) bound r (92 ∷ []) (117 ∷ 100 ∷ 99 ∷ 48 ∷ 48 ∷ []) low_code 56320 refl low_escape refl

solidus_end : (r : Rules) (due : Bool) → BehindSolidus r due [] → ⊥
solidus_end r due (a_letter c u z e l pair) = cc
solidus_end r due (four_digits c3 c2 c1 c0 d3 d2 d1 d0 z e h3 h2 h1 h0 fits) = cc

no_unit : (c d u : ℕ) → c ≡ d → letter_unit c ≡ None → letter_unit d ≡ Some u → ⊥
no_unit c d u s e l = let f : letter_unit c ≡ letter_unit d = ap letter_unit s in cc

solidus_other : (r : Rules) (due : Bool) (c : ℕ) (y : List ℕ) → letter_unit c ≡ None → c ≢ 117 → BehindSolidus r due (c ∷ y) → ⊥
solidus_other r due c y e n (a_letter d u z s l pair) = let same : c ≡ d = cc in no_unit c d u same e l
solidus_other r due c y e n (four_digits c3 c2 c1 c0 d3 d2 d1 d0 z s h3 h2 h1 h0 fits) = let same : c ≡ 117 = cc in n same

solidus_letter : (r : Rules) (c u : ℕ) (y : List ℕ) → letter_unit c ≡ Some u → r.surrogate ≡ true → BehindSolidus r true (c ∷ y) → ⊥
solidus_letter r c u y e on (a_letter d w z s l pair) = both_ways true (pair on) refl
solidus_letter r c u y e on (four_digits c3 c2 c1 c0 d3 d2 d1 d0 z s h3 h2 h1 h0 fits) = let same : c ≡ 117 = cc in not_u c u same e

pub stops_end : (due : Option ℕ) (b left : List ℕ) → b ≡ 92 ∷ left → first_of left ≡ None → StopsText due Syntax b left
stops_end due b [] s e = (92 ∷ [], s, λ bound. record { begins = λ r. begins_solidus due bound r; stops = (refl, λ v q f. solidus_end all_rules (is_due due) (behind_solidus due all_rules v [] q f.0)) })
stops_end due b (c ∷ left) s e = cc

pub stops_other : (due : Option ℕ) (b left : List ℕ) (c : ℕ) → b ≡ 92 ∷ left → first_of left ≡ Some c → letter_unit c ≡ None → c ≢ 117 → StopsText due Syntax b left
stops_other due b left c s e none other =
    let (rest, k) = split_first left c e in (
      92 ∷ [],
      s,
      λ bound. record {
        begins = λ r. begins_solidus due bound r;
        stops = let P : List ℕ → Type 0 = λ w. IsStop (FollowsLong due bound) Syntax (92 ∷ []) w in
            subst P (sym k) (syntax_turn due bound (92 ∷ c ∷ []) (λ r v more q f. solidus_other r (is_due due) c more none other (behind_solidus due r v (c ∷ more) q f)));
      },
    )

pub stops_letter : (high : ℕ) (b left : List ℕ) (c u : ℕ) → b ≡ 92 ∷ left → first_of left ≡ Some c → letter_unit c ≡ Some u → StopsText (Some high) LoneSurrogate b left
stops_letter high b left c u s e l =
    let (rest, k) = split_first left c e in (
      92 ∷ [],
      s,
      λ bound. record {
        begins = λ r. begins_solidus (Some high) bound r;
        stops = let P : List ℕ → Type 0 = λ w. IsStop (FollowsLong (Some high) bound) LoneSurrogate (92 ∷ []) w in
            subst P (sym k) (lone_turn (Some high) bound (92 ∷ c ∷ []) (λ r on v more q f. solidus_letter r c u more l on (behind_solidus (Some high) r v (c ∷ more) q f)) (loose_ends (Some high) bound (92 ∷ c ∷ []) [] (92 ∷ c ∷ []) u refl (by_letter c u l)));
      },
    )
