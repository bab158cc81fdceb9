-- Where an escape stops, and how it can go on.
use Rattle.std.proofs.Common.{◌≡◌, ℕ, ◌+◌, ◌*◌, ◌<◌, ◌≤◌, List, [], ◌∷◌, ◌++◌, Bool, true, false, IsUtf8, refl, sym, ap, ◌∙◌, subst, append_assoc, append-nil, arith, inl, inr}
use Rattle.std.specs.Prelude.{Option, Some, None, Err, ◌⊎◌}
use Rattle.std.proofs.lemmas.Bool.{cases_lt}
use Rattle.std.proofs.lemmas.Str.{IsUtf8-append, IsUtf8-nil}
use Rattle.json_tokens.specs.declared.kind.JsonKind.{JsonKind}
use Rattle.json_tokens.specs.declared.kind.JsonKind.TheVariants.{Syntax, Utf8, DuplicateKey, Depth, NumberLength, LoneSurrogate}
use Rattle.json_tokens.specs.Rules.{Rules, all_rules, without}
use Rattle.json_tokens.specs.Readers.{CanEnd, CannotEnd, IsStop}
use Rattle.json_tokens.specs.TextToken.{escaped, hex_value, letter_unit, IsEscape, by_digits, SpellsPieces, is_low, is_high}
use Rattle.decimal_json.specs.Follows.{is_due, FollowsText, FollowsLong, StopsText}
use Rattle.decimal_json.specs.TextParts.{HasNoDigit, TakesDigit}
use Rattle.decimal_json.proofs.Pieces.{more_pieces}
use Rattle.decimal_json.proofs.Steps.{escape_utf8}
use Rattle.decimal_json.proofs.Ends.{long_ends}
use Rattle.decimal_json.proofs.Turns.{syntax_turn, lone_turn}
use Rattle.decimal_json.proofs.Firsts.{BehindSolidus, a_letter, four_digits, behind_solidus}

-- ---- how an escape goes on
-- the second surrogate that completes a first one
abbrev pub low_code : List ℕ
low_code = 92 ∷ 117 ∷ 100 ∷ 99 ∷ 48 ∷ 48 ∷ []

pub low_escape : IsEscape 56320 low_code
low_escape = by_digits 100 99 48 48 13 12 0 0 refl refl refl refl

alone : (u : ℕ) (p more code : List ℕ) → p ++ more ≡ code → IsEscape u code → SpellsPieces (escaped u ∷ []) (p ++ more) []
alone u p more code e is =
    let P : List ℕ → Type 0 = λ w. SpellsPieces (escaped u ∷ []) w [] in
    subst P (append-nil code ∙ sym e) (more_pieces (escaped u) code is [] [] [] refl)

with_low : (u : ℕ) (p more code : List ℕ) → p ++ more ≡ code → IsEscape u code → SpellsPieces (escaped u ∷ escaped 56320 ∷ []) (p ++ (more ++ low_code)) []
with_low u p more code e is =
    let P : List ℕ → Type 0 = λ w. SpellsPieces (escaped u ∷ escaped 56320 ∷ []) w [] in
    subst P (ap (λ w. w ++ low_code) (sym e) ∙ append_assoc p more low_code) (more_pieces (escaped u) code is (escaped 56320 ∷ []) low_code [] (alone 56320 low_code [] low_code refl low_escape))

alone_utf8 : (u : ℕ) (p more code : List ℕ) → p ++ more ≡ code → IsEscape u code → IsUtf8 (p ++ more)
alone_utf8 u p more code e is = subst IsUtf8 (sym e) (escape_utf8 u code is)

with_low_utf8 : (u : ℕ) (p more code : List ℕ) → p ++ more ≡ code → IsEscape u code → IsUtf8 (p ++ (more ++ low_code))
with_low_utf8 u p more code e is = subst IsUtf8 (append_assoc p more low_code) (IsUtf8-append (p ++ more) low_code (alone_utf8 u p more code e is) (escape_utf8 56320 low_code low_escape))

by_high : (u : ℕ) (high : Bool) → is_high u ≡ high → (least : ℕ) (r : Rules) (p more code : List ℕ) → p ++ more ≡ code → IsEscape u code → is_low u ≡ false → CanEnd (FollowsLong None least) r p
by_high u true h least r p more code e is low = long_ends None r least p (more ++ low_code) (escaped u ∷ escaped 56320 ∷ []) (with_low u p more code e is) (λ z. with_low_utf8 u p more code e is) (λ z. rw (low, h) refl)
by_high u false h least r p more code e is low = long_ends None r least p more (escaped u ∷ []) (alone u p more code e is) (λ z. alone_utf8 u p more code e is) (λ z. rw (low, h) refl)

-- it ends as a code unit that fits
pub unit_ends : (due : Option ℕ) (least : ℕ) (r : Rules) (p more code : List ℕ) (u : ℕ) → p ++ more ≡ code → IsEscape u code → is_low u ≡ is_due due → CanEnd (FollowsLong due least) r p
unit_ends None least r p more code u e is fits = by_high u (is_high u) refl least r p more code e is fits
unit_ends (Some high) least r p more code u e is fits = long_ends (Some high) r least p more (escaped u ∷ []) (alone u p more code e is) (λ z. alone_utf8 u p more code e is) (λ z. rw fits refl)

-- or as any, where the rule of surrogates is dropped
pub loose_ends : (due : Option ℕ) (least : ℕ) (p more code : List ℕ) (u : ℕ) → p ++ more ≡ code → IsEscape u code → CanEnd (FollowsLong due least) (without LoneSurrogate) p
loose_ends due least p more code u e is = long_ends due (without LoneSurrogate) least p more (escaped u ∷ []) (alone u p more code e is) (λ z. alone_utf8 u p more code e is) (λ z. cc)

-- a text is open before its first byte
pub open_ends : (due : Option ℕ) (least : ℕ) (r : Rules) → CanEnd (FollowsLong due least) r []
open_ends None least r = long_ends None r least [] [] [] refl (λ z. IsUtf8-nil) (λ z. refl)
open_ends (Some high) least r = unit_ends (Some high) least r [] low_code low_code 56320 refl low_escape refl

-- ---- the digits of a code unit
pub digit_small : (c d : ℕ) → hex_value c ≡ Some d → d < 16
digit_small c d e = grind arith

pub same_digit : (c e d f : ℕ) → c ≡ e → hex_value c ≡ Some d → hex_value e ≡ Some f → d ≡ f
same_digit c e d f s h k = let g : hex_value c ≡ hex_value e = ap hex_value s in cc

abbrev pub unit_of : ℕ → ℕ → ℕ → ℕ → ℕ
unit_of d3 d2 d1 d0 = ((d3 * 16 + d2) * 16 + d1) * 16 + d0

pub low_true : (d3 d2 d1 d0 : ℕ) → d3 ≡ 13 → 12 ≤ d2 → d2 < 16 → d1 < 16 → d0 < 16 → is_low (unit_of d3 d2 d1 d0) ≡ true
low_true d3 d2 d1 d0 e l h k m =
    let a : 56320 ≤ unit_of d3 d2 d1 d0 = omega arith in
    let b : unit_of d3 d2 d1 d0 < 57344 = omega arith in
    is_low_within (unit_of d3 d2 d1 d0) a b
  where
    is_low_within : (u : ℕ) → 56320 ≤ u → u < 57344 → is_low u ≡ true
    is_low_within u a b = grind arith

pub low_false : (d3 d2 d1 d0 : ℕ) → (d3 < 13) ⊎ ((14 ≤ d3) ⊎ (d2 < 12)) → d3 ≤ 13 ⊎ (14 ≤ d3) → d2 < 16 → d1 < 16 → d0 < 16 → is_low (unit_of d3 d2 d1 d0) ≡ false
low_false d3 d2 d1 d0 h o k m n = elim h [
  | inl less ↦ below (unit_of d3 d2 d1 d0) (omega arith)
  | inr rest ↦ elim rest [
    | inl more ↦ above (unit_of d3 d2 d1 d0) (omega arith)
    | inr less ↦ elim o [
      | inl upto ↦ below (unit_of d3 d2 d1 d0) (omega arith)
      | inr more ↦ above (unit_of d3 d2 d1 d0) (omega arith)
    ]
  ]
]
  where
    below : (u : ℕ) → u < 56320 → is_low u ≡ false
    below u h = grind arith

    above : (u : ℕ) → 57344 ≤ u → is_low u ≡ false
    above u h = grind arith

-- The first two digits decide whether a code unit is a second surrogate.
abbrev pub fits_two : Bool → ℕ → ℕ → Type 0
fits_two true d3 d2 = (d3 ≡ 13) × (12 ≤ d2)
fits_two false d3 d2 = (d3 < 13) ⊎ ((14 ≤ d3) ⊎ (d2 < 12))

pub upto_or_more : (d : ℕ) → (d ≤ 13) ⊎ (14 ≤ d)
upto_or_more d = elim (cases_lt d 14) [ inl h ↦ inl (omega arith) | inr h ↦ inr h ]

pub unit_fits : (due : Bool) (d3 d2 d1 d0 : ℕ) → fits_two due d3 d2 → d2 < 16 → d1 < 16 → d0 < 16 → is_low (unit_of d3 d2 d1 d0) ≡ due
unit_fits true d3 d2 d1 d0 (e, l) h k m = low_true d3 d2 d1 d0 e l h k m
unit_fits false d3 d2 d1 d0 f h k m = low_false d3 d2 d1 d0 f (upto_or_more d3) h k m

-- ---- where the digits stop
pub not_u : (c u : ℕ) → c ≡ 117 → letter_unit c ≡ Some u → ⊥
not_u c u e l = let f : letter_unit c ≡ None = ap letter_unit e in cc

pub no_value : (c e d : ℕ) → c ≡ e → hex_value c ≡ None → hex_value e ≡ Some d → ⊥
no_value c e d s h k = let g : hex_value c ≡ hex_value e = ap hex_value s in cc

-- The digits of the code unit that follows a reverse solidus and u.
pub record Digits (r : Rules) (due : Bool) (y : List ℕ) : Type 0 where
  pub c3 : ℕ
  pub c2 : ℕ
  pub c1 : ℕ
  pub c0 : ℕ
  pub d3 : ℕ
  pub d2 : ℕ
  pub d1 : ℕ
  pub d0 : ℕ
  pub z : List ℕ
  pub bytes : y ≡ c3 ∷ c2 ∷ c1 ∷ c0 ∷ z
  pub h3 : hex_value c3 ≡ Some d3
  pub h2 : hex_value c2 ≡ Some d2
  pub h1 : hex_value c1 ≡ Some d1
  pub h0 : hex_value c0 ≡ Some d0
  pub fits : r.surrogate ≡ true → is_low (unit_of d3 d2 d1 d0) ≡ due

digits_by : (r : Rules) (due : Bool) (y : List ℕ) → BehindSolidus r due (117 ∷ y) → Digits r due y
digits_by r due y (a_letter c u z e l pair) = let same : c ≡ 117 = cc in absurd (not_u c u same l)
digits_by r due y (four_digits c3 c2 c1 c0 d3 d2 d1 d0 z e h3 h2 h1 h0 fits) =
    record { c3 = c3; c2 = c2; c1 = c1; c0 = c0; d3 = d3; d2 = d2; d1 = d1; d0 = d0; z = z; bytes = cc; h3 = h3; h2 = h2; h1 = h1; h0 = h0; fits = fits }

pub digits_of : (due : Option ℕ) (r : Rules) (v y q : List ℕ) → FollowsText due r v (92 ∷ 117 ∷ y) q → Digits r (is_due due) y
digits_of due r v y q h = digits_by r (is_due due) y (behind_solidus due r v (117 ∷ y) q h)

-- What is known at a place within the digits: how it goes on, and which bytes stop it.
pub record IsPlace (due : Option ℕ) (p : List ℕ) (least most : ℕ) : Type 0 where
  pub begins : (bound : ℕ) (r : Rules) → CanEnd (FollowsLong due bound) r p
  pub ended : (r : Rules) (v q : List ℕ) → FollowsText due r v p q → ⊥
  pub other : (r : Rules) (c : ℕ) → hex_value c ≡ None → CannotEnd (FollowsText due) r (p ++ c ∷ [])
  pub lone : (r : Rules) (c d : ℕ) → hex_value c ≡ Some d → (d < least) ⊎ (most < d) → r.surrogate ≡ true → CannotEnd (FollowsText due) r (p ++ c ∷ [])
  pub loose : (bound c d : ℕ) → hex_value c ≡ Some d → (d < least) ⊎ (most < d) → CanEnd (FollowsLong due bound) (without LoneSurrogate) (p ++ c ∷ [])

other_stop : (due : Option ℕ) (p : List ℕ) (least most : ℕ) → IsPlace due p least most → (b : List ℕ) → HasNoDigit b → (bound : ℕ) → IsStop (FollowsLong due bound) Syntax p b
other_stop due p least most at [] h bound = (refl, λ v q f. at.ended all_rules v q f.0)
other_stop due p least most at (c ∷ b) h bound = syntax_turn due bound (p ++ c ∷ []) (λ r. at.other r c h)

pub place_stops : (due : Option ℕ) (p : List ℕ) (least most : ℕ) → IsPlace due p least most → (b left : List ℕ) (kind : JsonKind) → TakesDigit least most b (Err kind) left → StopsText due kind (p ++ b) left
place_stops due p least most at b left Syntax (same, h) =
    (p, ap (λ w. p ++ w) (sym same), λ bound. record { begins = λ r. at.begins bound r; stops = let P : List ℕ → Type 0 = λ w. IsStop (FollowsLong due bound) Syntax p w in subst P (sym same) (other_stop due p least most at b h bound) })
place_stops due p least most at b left LoneSurrogate (same, (c, d, rest, e, h, out)) =
    (p, ap (λ w. p ++ w) (sym same), λ bound. record { begins = λ r. at.begins bound r; stops = let P : List ℕ → Type 0 = λ w. IsStop (FollowsLong due bound) LoneSurrogate p w in subst P (sym (same ∙ e)) (lone_turn due bound (p ++ c ∷ []) (λ r on. at.lone r c d h out on) (at.loose bound c d h out)) })
place_stops due p least most at b left Utf8 h = absurd h
place_stops due p least most at b left DuplicateKey h = absurd h
place_stops due p least most at b left Depth h = absurd h
place_stops due p least most at b left NumberLength h = absurd h
