-- What a text begins with, by its first byte.
use Rattle.std.proofs.Common.{◌≡◌, ℕ, ◌+◌, ◌*◌, ◌<◌, List, [], ◌∷◌, ◌++◌, Bool, true, false, IsUtf8, refl, sym, ap, ◌∙◌, subst, append_assoc, arith}
use Rattle.std.specs.Prelude.{IsTrue, Option, Some, not, ◌&&◌}
use Rattle.std.proofs.lemmas.Bool.{and_parts, both_ways}
use Rattle.json_tokens.specs.Rules.{Rules}
use Rattle.json_tokens.specs.TextToken.{Piece, plain, escaped, is_unescaped, hex_value, letter_unit, IsEscape, by_letter, by_digits, SpellsPieces, is_low, is_high, are_paired}
use Rattle.decimal_json.specs.Follows.{is_due, FollowsText}
use Rattle.decimal_json.proofs.Pieces.{escape_begins}

-- The first piece, or the closing mark.
pub data First (r : Rules) (due : Bool) (c : ℕ) (b : List ℕ) : Type 0 where
  is_mark : c ≡ 34 → (r.surrogate ≡ true → due ≡ false) → First r due c b
  is_plain : (inner q : List ℕ) → b ≡ inner ++ 34 ∷ q → IsTrue (is_unescaped c) → (r.utf8 ≡ true → IsUtf8 (c ∷ inner)) → (r.surrogate ≡ true → due ≡ false) → First r due c b
  is_escape : (u : ℕ) (code left : List ℕ) → c ≡ 92 → IsEscape u code → c ∷ b ≡ code ++ left → (r.surrogate ≡ true → is_low u ≡ due) → First r due c b

not_due : (due x : Bool) → (not due && x) ≡ true → due ≡ false
not_due true x h = cc
not_due false x h = refl

none_due : (due : Bool) → not due ≡ true → due ≡ false
none_due true h = cc
none_due false h = refl

not_false : (x : Bool) → not x ≡ true → x ≡ false
not_false true h = cc
not_false false h = refl

low_fits : (due : Bool) (u : ℕ) (ps : List Piece) → are_paired due (escaped u ∷ ps) ≡ true → is_low u ≡ due
low_fits true u ps h = (and_parts (is_low u) (are_paired false ps) h).0
low_fits false u ps h = not_false (is_low u) (and_parts (not (is_low u)) (are_paired (is_high u) ps) h).0

first_by : (r : Rules) (due : Bool) (c : ℕ) (b q inner : List ℕ) (pieces : List Piece) → c ∷ b ≡ inner ++ 34 ∷ q → SpellsPieces pieces inner [] → (r.utf8 ≡ true → IsUtf8 inner) → (r.surrogate ≡ true → IsTrue (are_paired due pieces)) → First r due c b
first_by r due c b q inner [] e sp utf8 pair =
    let whole : c ∷ b ≡ 34 ∷ q = e ∙ ap (λ w. w ++ 34 ∷ q) sp in
    let same : c ≡ 34 = cc in
    is_mark same (λ z. none_due due (pair z))
first_by r due c b q inner (plain d ∷ ps) e (rest, cut, ok, sp) utf8 pair =
    let whole : c ∷ b ≡ d ∷ (rest ++ 34 ∷ q) = e ∙ ap (λ w. w ++ 34 ∷ q) cut in
    let same : d ≡ c = cc in
    let left : b ≡ rest ++ 34 ∷ q = cc in
    is_plain rest q left (sym (ap is_unescaped same) ∙ ok) (λ z. subst IsUtf8 (cut ∙ ap (λ w. w ∷ rest) same) (utf8 z)) (λ z. not_due due (are_paired false ps) (pair z))
first_by r due c b q inner (escaped u ∷ ps) e (code, rest, cut, is, sp) utf8 pair =
    let (tail, f) = escape_begins u code is in
    let whole : c ∷ b ≡ code ++ (rest ++ 34 ∷ q) = e ∙ ap (λ w. w ++ 34 ∷ q) cut ∙ append_assoc code rest (34 ∷ q) in
    let start : c ∷ b ≡ 92 ∷ (tail ++ (rest ++ 34 ∷ q)) = whole ∙ ap (λ w. w ++ (rest ++ 34 ∷ q)) f in
    let same : c ≡ 92 = cc in
    is_escape u code (rest ++ 34 ∷ q) same is whole (λ z. low_fits due u ps (pair z))

pub first_of_text : (due : Option ℕ) (r : Rules) (v : List ℕ) (c : ℕ) (b q : List ℕ) → FollowsText due r v (c ∷ b) q → First r (is_due due) c b
first_of_text due r v c b q (inner, pieces, e, sp, utf8, pair, s) = first_by r (is_due due) c b q inner pieces e sp utf8 pair

pub no_text : (due : Option ℕ) (r : Rules) (v q : List ℕ) → FollowsText due r v [] q → ⊥
no_text due r v q ([], pieces, e, sp, utf8, pair, s) = cc
no_text due r v q (c ∷ inner, pieces, e, sp, utf8, pair, s) = cc

-- What follows a reverse solidus.
pub data BehindSolidus (r : Rules) (due : Bool) (y : List ℕ) : Type 0 where
  a_letter : (c u : ℕ) (z : List ℕ) → y ≡ c ∷ z → letter_unit c ≡ Some u → (r.surrogate ≡ true → due ≡ false) → BehindSolidus r due y
  four_digits : (c3 c2 c1 c0 d3 d2 d1 d0 : ℕ) (z : List ℕ) → y ≡ 117 ∷ c3 ∷ c2 ∷ c1 ∷ c0 ∷ z → hex_value c3 ≡ Some d3 → hex_value c2 ≡ Some d2 → hex_value c1 ≡ Some d1 → hex_value c0 ≡ Some d0
      → (r.surrogate ≡ true → is_low (((d3 * 16 + d2) * 16 + d1) * 16 + d0) ≡ due) → BehindSolidus r due y

pub letter_low : (c u : ℕ) → letter_unit c ≡ Some u → is_low u ≡ false
letter_low c u e = let small : u < 128 = grind arith in grind arith

shape_of : (r : Rules) (due : Bool) (u : ℕ) (y code left : List ℕ) → IsEscape u code → 92 ∷ y ≡ code ++ left → (r.surrogate ≡ true → is_low u ≡ due) → BehindSolidus r due y
shape_of r due u y code left (by_letter c u' l) e fits =
    let rest : y ≡ c ∷ left = cc in
    a_letter c u' left rest l (λ z. sym (fits z) ∙ letter_low c u' l)
shape_of r due u y code left (by_digits c3 c2 c1 c0 d3 d2 d1 d0 h3 h2 h1 h0) e fits =
    let rest : y ≡ 117 ∷ c3 ∷ c2 ∷ c1 ∷ c0 ∷ left = cc in
    four_digits c3 c2 c1 c0 d3 d2 d1 d0 left rest h3 h2 h1 h0 fits

solidus_plain : (c : ℕ) → c ≡ 92 → IsTrue (is_unescaped c) → ⊥
solidus_plain c e ok = both_ways (is_unescaped c) (ap is_unescaped e) ok

solidus_first : (r : Rules) (due : Bool) (y : List ℕ) (c : ℕ) → c ≡ 92 → First r due c y → BehindSolidus r due y
solidus_first r due y c s (is_mark e pair) = absurd (omega arith)
solidus_first r due y c s (is_plain inner q cut ok utf8 pair) = absurd (solidus_plain c s ok)
solidus_first r due y c s (is_escape u code left e is whole fits) = shape_of r due u y code left is (ap (λ w. w ∷ y) (sym s) ∙ whole) fits

pub behind_solidus : (due : Option ℕ) (r : Rules) (v y q : List ℕ) → FollowsText due r v (92 ∷ y) q → BehindSolidus r (is_due due) y
behind_solidus due r v y q h = solidus_first r (is_due due) y 92 refl (first_of_text due r v 92 y q h)

-- A byte below 32 begins nothing.
pub control_first : (due : Option ℕ) (r : Rules) (v : List ℕ) (c : ℕ) (b q : List ℕ) → c < 32 → FollowsText due r v (c ∷ b) q → ⊥
control_first due r v c b q low h = control (is_due due) (first_of_text due r v c b q h)
  where
    refused : IsTrue (is_unescaped c) → ⊥
    refused ok = let e : is_unescaped c ≡ false = grind arith in both_ways (is_unescaped c) e ok

    control : (due : Bool) → First r due c b → ⊥
    control due (is_mark e pair) = omega arith
    control due (is_plain inner q' cut ok utf8 pair) = refused ok
    control due (is_escape u code left e is whole fits) = omega arith
