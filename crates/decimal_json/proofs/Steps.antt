-- What passes from one surrogate that is due to the next: nothing, plain bytes, an escape, and one after
-- another.
use Rattle.std.proofs.Common.{◌≡◌, ℕ, ◌<◌, ◌≤◌, List, [], ◌∷◌, ◌++◌, Bool, true, false, IsUtf8, refl, sym, ap, ◌∙◌, subst, append_assoc, arith, inl, inr}
use Rattle.std.specs.Prelude.{Option, Some, None, encode_utf8}
use Rattle.std.specs.Char.{IsScalar}
use Rattle.std.proofs.lemmas.Bool.{cases_lt}
use Rattle.std.proofs.lemmas.Str.{IsUtf8-append, IsUtf8-nil, IsUtf8-encode}
use Rattle.json_tokens.specs.TextToken.{Piece, escaped, hex_value, letter_unit, IsEscape, by_letter, by_digits, is_high, is_low, paired, are_paired, meant}
use Rattle.decimal_json.specs.Follows.{is_due, IsDueHigh, FollowsText, Passes}
use Rattle.decimal_json.specs.TextParts.{IsWritten, IsWrittenAlone}
use Rattle.decimal_json.proofs.Pieces.{plains, ArePlain, more_pieces, first_piece, more_plains, first_plains}
use Rattle.decimal_json.proofs.Utf8.{ascii_then, utf8_after, high_scalar, low_code}

pub passes_nothing : (due : Option ℕ) → Passes due [] [] due
passes_nothing due = record { there = λ r w b q h. h; back = λ r v b q h. (v, refl, h); whole = IsUtf8-nil }

pub passes_both : (a b d : Option ℕ) (c1 c2 o1 o2 : List ℕ) → Passes a c1 o1 b → Passes b c2 o2 d → Passes a (c1 ++ c2) (o1 ++ o2) d
passes_both a b d c1 c2 o1 o2 first second = record {
  there = λ r w y q h.
      let P : List ℕ → Type 0 = λ z. FollowsText a r z ((c1 ++ c2) ++ y) q in
      let Q : List ℕ → Type 0 = λ z. FollowsText a r (o1 ++ (o2 ++ w)) z q in
      subst P (sym (append_assoc o1 o2 w)) (subst Q (sym (append_assoc c1 c2 y)) (first.there r (o2 ++ w) (c2 ++ y) q (second.there r w y q h)));
  back = λ r v y q h.
      let Q : List ℕ → Type 0 = λ z. FollowsText a r v z q in
      let (w, e, f) = first.back r v (c2 ++ y) q (subst Q (append_assoc c1 c2 y) h) in
      let (u, k, g) = second.back r w y q f in
      (u, e ∙ ap (λ z. o1 ++ z) k ∙ sym (append_assoc o1 o2 u), g);
  whole = IsUtf8-append o1 o2 first.whole second.whole;
}

-- plain bytes
pub paired_plains : (code : List ℕ) (ps : List Piece) → are_paired false (plains code ++ ps) ≡ are_paired false ps
paired_plains [] ps = refl
paired_plains (c ∷ code) ps = paired_plains code ps

pub meant_plains : (code : List ℕ) (ps : List Piece) → meant None (plains code ++ ps) ≡ code ++ meant None ps
meant_plains [] ps = refl
meant_plains (c ∷ code) ps = ap (λ w. c ∷ w) (meant_plains code ps)

pub passes_plains : (code : List ℕ) → ArePlain code → IsUtf8 code → Passes None code code None
passes_plains code ok u = record {
  there = λ r w b q (inner, pieces, e, sp, utf8, pair, s).
      (code ++ inner, plains code ++ pieces, ap (λ z. code ++ z) e ∙ sym (append_assoc code inner (34 ∷ q)), more_plains code ok pieces inner [] sp, λ z. IsUtf8-append code inner u (utf8 z), λ z. paired_plains code pieces ∙ pair z, ap (λ z. code ++ z) s ∙ sym (meant_plains code pieces));
  back = λ r v b q (inner, pieces, e, sp, utf8, pair, s).
      let k = first_plains code ok pieces inner q b sp (sym e) in
      (meant None k.more, s ∙ ap (λ z. meant None z) k.first ∙ meant_plains code k.more, (k.left, k.more, k.bytes, k.spelled, λ z. utf8_after code k.left u (subst IsUtf8 k.cut (utf8 z)), λ z. sym (paired_plains code k.more) ∙ sym (ap (λ y. are_paired false y) k.first) ∙ pair z, refl));
  whole = u;
}

-- escapes are ASCII
pub digit_ascii : (c d : ℕ) → hex_value c ≡ Some d → c < 128
digit_ascii c d e = grind arith

letter_ascii : (c d : ℕ) → letter_unit c ≡ Some d → c < 128
letter_ascii c d e = grind arith

pub escape_utf8 : (u : ℕ) (code : List ℕ) → IsEscape u code → IsUtf8 code
escape_utf8 u code (by_letter c u' l) = ascii_then 92 (c ∷ []) (omega arith) (ascii_then c [] (letter_ascii c u' l) IsUtf8-nil)
escape_utf8 u code (by_digits c3 c2 c1 c0 d3 d2 d1 d0 h3 h2 h1 h0) =
    ascii_then 92 _ (omega arith) (ascii_then 117 _ (omega arith) (ascii_then c3 _ (digit_ascii c3 d3 h3) (ascii_then c2 _ (digit_ascii c2 d2 h2) (ascii_then c1 _ (digit_ascii c1 d1 h1) (ascii_then c0 [] (digit_ascii c0 d0 h0) IsUtf8-nil)))))

pub passes_unit : (due next_due : Option ℕ) (u : ℕ) (code out : List ℕ) → IsEscape u code
    → ((ps : List Piece) → are_paired (is_due due) (escaped u ∷ ps) ≡ are_paired (is_due next_due) ps)
    → ((ps : List Piece) → meant due (escaped u ∷ ps) ≡ out ++ meant next_due ps)
    → IsUtf8 out → Passes due code out next_due
passes_unit due next_due u code out is pairs means whole = record {
  there = λ r w b q (inner, pieces, e, sp, utf8, pair, s).
      (code ++ inner, escaped u ∷ pieces, ap (λ z. code ++ z) e ∙ sym (append_assoc code inner (34 ∷ q)), more_pieces (escaped u) code is pieces inner [] sp, λ z. IsUtf8-append code inner (escape_utf8 u code is) (utf8 z), λ z. pairs pieces ∙ pair z, ap (λ z. out ++ z) s ∙ sym (means pieces));
  back = λ r v b q (inner, pieces, e, sp, utf8, pair, s).
      let k = first_piece (escaped u) code is pieces inner q b sp (sym e) in
      (meant next_due k.more, s ∙ ap (λ z. meant due z) k.first ∙ means k.more, (k.left, k.more, k.bytes, k.spelled, λ z. utf8_after code k.left (escape_utf8 u code is) (subst IsUtf8 k.cut (utf8 z)), λ z. sym (pairs k.more) ∙ sym (ap (λ y. are_paired (is_due due) y) k.first) ∙ pair z, refl));
  whole = whole;
}

-- what a code unit means
pub pair_scalar : (high low : ℕ) → is_high high ≡ true → is_low low ≡ true → IsScalar (paired high low)
pair_scalar high low h l =
    let a : 55296 ≤ high = grind arith in
    let b : high < 56320 = grind arith in
    let c : 56320 ≤ low = grind arith in
    let d : low < 57344 = grind arith in
    high_scalar (paired high low) (omega arith) (omega arith)

pub unit_scalar : (u : ℕ) → u < 65536 → is_high u ≡ false → is_low u ≡ false → IsScalar u
unit_scalar u h a b = elim (cases_lt u 55296) [
  | inl k ↦ low_code u k
  | inr k ↦ let m : 57344 ≤ u = grind arith in high_scalar u m (omega arith)
]

passes_alone : (u : ℕ) (high : Bool) → is_high u ≡ high → (code out : List ℕ) (next_due : Option ℕ) → IsEscape u code → u < 65536 → is_low u ≡ false → IsWrittenAlone high u out next_due → Passes None code out next_due
passes_alone u true h code out next_due is small low (eo, en) =
    let P : List ℕ → Type 0 = λ w. Passes None code w next_due in
    let Q : Option ℕ → Type 0 = λ w. Passes None code [] w in
    subst P (sym eo) (subst Q (sym en) (passes_unit None (Some u) u code [] is (λ ps. rw (low, h) refl) (λ ps. rw h refl) IsUtf8-nil))
passes_alone u false h code out next_due is small low (eo, en) =
    let P : List ℕ → Type 0 = λ w. Passes None code w next_due in
    let Q : Option ℕ → Type 0 = λ w. Passes None code (encode_utf8 u) w in
    subst P (sym eo) (subst Q (sym en) (passes_unit None None u code (encode_utf8 u) is (λ ps. rw (low, h) refl) (λ ps. rw h refl) (IsUtf8-encode u (unit_scalar u small h low))))

pub passes_escape : (due : Option ℕ) (u : ℕ) (code out : List ℕ) (next_due : Option ℕ) → IsEscape u code → u < 65536 → is_low u ≡ is_due due → IsDueHigh due → IsWritten due u out next_due → Passes due code out next_due
passes_escape None u code out next_due is small low high w = passes_alone u (is_high u) refl code out next_due is small low w
passes_escape (Some h) u code out next_due is small low high (eo, en) =
    let P : List ℕ → Type 0 = λ w. Passes (Some h) code w next_due in
    let Q : Option ℕ → Type 0 = λ w. Passes (Some h) code (encode_utf8 (paired h u)) w in
    subst P (sym eo) (subst Q (sym en) (passes_unit (Some h) None u code (encode_utf8 (paired h u)) is (λ ps. rw low refl) (λ ps. rw low refl) (IsUtf8-encode (paired h u) (pair_scalar h u high low))))

due_alone : (u : ℕ) (high : Bool) → is_high u ≡ high → (out : List ℕ) (next_due : Option ℕ) → IsWrittenAlone high u out next_due → IsDueHigh next_due
due_alone u true h out next_due (eo, en) = subst IsDueHigh (sym en) h
due_alone u false h out next_due (eo, en) = subst IsDueHigh (sym en) tt

pub next_is_high : (due : Option ℕ) (u : ℕ) (out : List ℕ) (next_due : Option ℕ) → IsWritten due u out next_due → IsDueHigh next_due
next_is_high None u out next_due w = due_alone u (is_high u) refl out next_due w
next_is_high (Some h) u out next_due (eo, en) = subst IsDueHigh (sym en) tt
