-- The text of a color in range is read as that color.
use Rattle.std.proofs.Common.{◌≡◌, ◌<◌, ◌∙◌, ℕ, ◌+◌, zero, suc, ℤ, pos, negsuc, List, [], ◌∷◌, ◌++◌, length, take, drop, refl, sym, ap, arith, Bool, true, false, inl, inr}
use Rattle.std.specs.Prelude.{◌≤◌, ◌≤ℤ◌, ◌≢◌, nat_eq, nat_lt, int_le, Some, Ok, Err, IsTrue, unsigned_abs, slice_index}
use Rattle.std.specs.List.{list_all}
use Rattle.std.specs.Str.{IsUtf8}
use Rattle.std.proofs.lemmas.List.Folds.{list_all-append}
use Rattle.std.proofs.lemmas.Str.{IsUtf8-from_ascii}
use Rattle.std.proofs.Math.Seq.{take-append_seam, drop-append-add}
use Rattle.std.proofs.lemmas.Bool.{and_parts, and_from, both_ways, cases_eq}
use Rattle.std.proofs.lemmas.Int.{ints, by_lt_z}
use Rattle.json_tokens.specs.Number.{is_number, is_number_byte}
use Rattle.json_tokens.specs.NumberBytes.{number_bytes}
use Rattle.fixed_num.specs.ColorRange.{IsInRange}
use Rattle.fixed_num.specs.Decimal.{read_text}
use Rattle.fixed_num.specs.Number.{bound}
use Rattle.fixed_num.specs.NumberText.{number_text}
use Rattle.fixed_num.specs.declared.decimal.NumFault.TheVariants.{NotNumber}
use Rattle.fixed_num.specs.declared.color.Color.{Color}
use Rattle.prop_values.specs.ColorText.{color_text}
use Rattle.format_text.specs.Reading.{place_of, before, behind, is_part, are_parts, color_of, color_by, color_parts, color_in}

is_at_most : (a b : ℤ) → int_le a b ≡ true → a ≤ℤ b
is_at_most a b h = by_lt_z b a (λ past. absurd (let f : int_le a b ≡ false = grind (arith, ints) in cc)) (λ up. up)

part_range : (most z : ℤ) → is_part most z ≡ true → (pos 0 ≤ℤ z) × (z ≤ℤ most)
part_range most z h =
    let (low, high) = and_parts (int_le (pos 0) z) (int_le z most) h in
    (is_at_most (pos 0) z low, is_at_most z most high)

pub parts_in_range : (r g b a : ℤ) → are_parts r g b a ≡ true → IsInRange (record { r = r; g = g; b = b; a = a })
parts_in_range r g b a h =
    let (r_in, rest) = and_parts (is_part (pos 255000000) r) _ h in
    let (g_in, later) = and_parts (is_part (pos 255000000) g) _ rest in
    let (b_in, a_in) = and_parts (is_part (pos 255000000) b) _ later in
    let (r0, r1) = part_range (pos 255000000) r r_in in
    let (g0, g1) = part_range (pos 255000000) g g_in in
    let (b0, b1) = part_range (pos 255000000) b b_in in
    let (a0, a1) = part_range (pos 1000000) a a_in in
    record { red_from = r0; red_to = r1; green_from = g0; green_to = g1; blue_from = b0; blue_to = b1; opacity_from = a0; opacity_to = a1 }

part_within : (most : ℕ) (z : ℤ) → pos 0 ≤ℤ z → z ≤ℤ pos most → most ≤ bound → unsigned_abs z ≤ bound
part_within most (pos n) low high h = grind (arith, ints)
part_within most (negsuc n) low high h = absurd (grind (arith, ints))

range_part : (most z : ℤ) → pos 0 ≤ℤ z → z ≤ℤ most → is_part most z ≡ true
range_part most z low high = grind (arith, ints)

color_again : (c : Color) → IsInRange c → color_of c.r c.g c.b c.a ≡ Some c
color_again c range =
    let r : is_part (pos 255000000) c.r ≡ true = range_part _ _ range.red_from range.red_to in
    let g : is_part (pos 255000000) c.g ≡ true = range_part _ _ range.green_from range.green_to in
    let b : is_part (pos 255000000) c.b ≡ true = range_part _ _ range.blue_from range.blue_to in
    let a : is_part (pos 1000000) c.a ≡ true = range_part _ _ range.opacity_from range.opacity_to in
    rw (r, g, b, a) refl

-- ---- a mark after bytes that are none

other_byte : (b mark : ℕ) → is_number_byte b ≡ true → is_number_byte mark ≡ false → nat_eq b mark ≡ false
other_byte b mark here there = elim (cases_eq b mark) [
  | inl same ↦ absurd (both_ways (is_number_byte mark) there (ap is_number_byte (sym same) ∙ here))
  | inr other ↦ grind arith
]

place_found : (mark : ℕ) (n rest : List ℕ) → is_number_byte mark ≡ false → IsTrue (list_all is_number_byte n) → place_of mark (n ++ mark ∷ rest) ≡ length n
place_found mark [] rest other all = let e : nat_eq mark mark ≡ true = grind arith in rw e refl
place_found mark (b ∷ n) rest other all =
    let parts = and_parts (is_number_byte b) (list_all is_number_byte n) all in
    let differs : nat_eq b mark ≡ false = other_byte b mark parts.0 other in
    rw differs (omega (arith, place_found mark n rest other parts.1))

pub before_found : (mark : ℕ) (n rest : List ℕ) → is_number_byte mark ≡ false → IsTrue (list_all is_number_byte n) → before mark (n ++ mark ∷ rest) ≡ n
before_found mark n rest other all = ap (λ k. take k (n ++ mark ∷ rest)) (place_found mark n rest other all) ∙ take-append_seam n (mark ∷ rest)

pub behind_found : (mark : ℕ) (n rest : List ℕ) → is_number_byte mark ≡ false → IsTrue (list_all is_number_byte n) → behind mark (n ++ mark ∷ rest) ≡ rest
behind_found mark n rest other all =
    let e : 1 + place_of mark (n ++ mark ∷ rest) ≡ length n + 1 = omega (arith, place_found mark n rest other all) in
    ap (λ k. drop k (n ++ mark ∷ rest)) e ∙ drop-append-add n (mark ∷ rest) 1

color_found : (t0 t1 t2 t3 nr ng nb na : List ℕ) (r g b a : ℤ) → before 44 t0 ≡ nr → behind 44 t0 ≡ t1 → before 44 t1 ≡ ng → behind 44 t1 ≡ t2 → before 44 t2 ≡ nb → behind 44 t2 ≡ t3 → before 41 t3 ≡ na
    → read_text nr ≡ Ok r → read_text ng ≡ Ok g → read_text nb ≡ Ok b → read_text na ≡ Ok a → color_parts t0 ≡ color_of r g b a
color_found t0 t1 t2 t3 nr ng nb na r g b a fr br fg bg fb bb fa er eg eb ea =
    (λ i. color_by (read_text (fr i)) (read_text (before 44 (br i))) (read_text (before 44 (behind 44 (br i)))) (read_text (before 41 (behind 44 (behind 44 (br i))))))
    ∙ ((λ i. color_by (er i) (read_text (fg i)) (read_text (before 44 (bg i))) (read_text (before 41 (behind 44 (bg i)))))
    ∙ ((λ i. color_by (Ok r) (eg i) (read_text (fb i)) (read_text (before 41 (bb i))))
    ∙ (λ i. color_by (Ok r) (Ok g) (eb i) ((ap read_text fa ∙ ea) i))))

-- ---- ASCII

abbrev is_ascii : ℕ → Bool
is_ascii b = nat_lt b 128

ascii_at : (bs : List ℕ) (i : ℕ) → IsTrue (list_all is_ascii bs) → slice_index bs i < 128
ascii_at [] i h = omega arith
ascii_at (c ∷ bs) zero h = let e = (and_parts (is_ascii c) (list_all is_ascii bs) h).0 in grind arith
ascii_at (c ∷ bs) (suc i) h = ascii_at bs i (and_parts (is_ascii c) (list_all is_ascii bs) h).1

pub ascii_utf8 : (bs : List ℕ) → IsTrue (list_all is_ascii bs) → IsUtf8 bs
ascii_utf8 bs h = IsUtf8-from_ascii bs (λ i. ascii_at bs i h)

number_byte_is_ascii : (b : ℕ) → is_number_byte b ≡ true → is_ascii b ≡ true
number_byte_is_ascii b h = grind arith

all_ascii : (bs : List ℕ) → IsTrue (list_all is_number_byte bs) → IsTrue (list_all is_ascii bs)
all_ascii [] h = refl
all_ascii (b ∷ bs) h =
    let parts = and_parts (is_number_byte b) (list_all is_number_byte bs) h in
    and_from (is_ascii b) (list_all is_ascii bs) (number_byte_is_ascii b parts.0) (all_ascii bs parts.1)

ascii_before : (bs : List ℕ) (b : ℕ) (cs : List ℕ) → IsTrue (list_all is_number_byte bs) → is_ascii b ≡ true → IsTrue (list_all is_ascii cs) → IsTrue (list_all is_ascii (bs ++ b ∷ cs))
ascii_before bs b cs all here later = list_all-append is_ascii bs (b ∷ cs) ∙ and_from (list_all is_ascii bs) _ (all_ascii bs all) (and_from (is_ascii b) _ here later)

module _ (written : (z : ℤ) → unsigned_abs z ≤ bound → read_text (number_text z) ≡ Ok z) (is_json : (bs : List ℕ) → read_text bs ≢ Err NotNumber → IsTrue (is_number bs)) where
  pub number_is : (z : ℤ) → unsigned_abs z ≤ bound → IsTrue (is_number (number_text z))
  number_is z h = is_json (number_text z) (λ e. absurd (let f : Ok z ≡ Err NotNumber = sym (written z h) ∙ e in cc))

  number_all : (z : ℤ) → unsigned_abs z ≤ bound → IsTrue (list_all is_number_byte (number_text z))
  number_all z h = number_bytes (number_text z) (number_is z h)

  pub color_read : (c : Color) → IsInRange c → color_in (color_text c) ≡ Some c
  unfolding color_text
  color_read c range =
      let r = part_within 255000000 c.r range.red_from range.red_to (omega arith) in
      let g = part_within 255000000 c.g range.green_from range.green_to (omega arith) in
      let b = part_within 255000000 c.b range.blue_from range.blue_to (omega arith) in
      let a = part_within 1000000 c.a range.opacity_from range.opacity_to (omega arith) in
      let nr = number_text c.r in
      let ng = number_text c.g in
      let nb = number_text c.b in
      let na = number_text c.a in
      let t3 : List ℕ = na ++ 41 ∷ [] in
      let t2 : List ℕ = nb ++ 44 ∷ t3 in
      let t1 : List ℕ = ng ++ 44 ∷ t2 in
      color_found (nr ++ 44 ∷ t1) t1 t2 t3 nr ng nb na c.r c.g c.b c.a
      (before_found 44 nr t1 refl (number_all c.r r)) (behind_found 44 nr t1 refl (number_all c.r r))
      (before_found 44 ng t2 refl (number_all c.g g)) (behind_found 44 ng t2 refl (number_all c.g g))
      (before_found 44 nb t3 refl (number_all c.b b)) (behind_found 44 nb t3 refl (number_all c.b b))
      (before_found 41 na [] refl (number_all c.a a))
      (written c.r r) (written c.g g) (written c.b b) (written c.a a)
      ∙ color_again c range

  pub color_utf8 : (c : Color) → IsInRange c → IsUtf8 (color_text c)
  unfolding color_text
  color_utf8 c range =
      let r = part_within 255000000 c.r range.red_from range.red_to (omega arith) in
      let g = part_within 255000000 c.g range.green_from range.green_to (omega arith) in
      let b = part_within 255000000 c.b range.blue_from range.blue_to (omega arith) in
      let a = part_within 1000000 c.a range.opacity_from range.opacity_to (omega arith) in
      let last = ascii_before (number_text c.a) 41 [] (number_all c.a a) refl refl in
      let blue = ascii_before (number_text c.b) 44 _ (number_all c.b b) refl last in
      let green = ascii_before (number_text c.g) 44 _ (number_all c.g g) refl blue in
      let red = ascii_before (number_text c.r) 44 _ (number_all c.r r) refl green in
      ascii_utf8 (color_text c) red
