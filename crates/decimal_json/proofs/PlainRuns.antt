-- Unescaped bytes, up to the closing mark.
use Rattle.std.proofs.Common.{◌≡◌, ℕ, ◌+◌, ◌-◌, List, [], ◌∷◌, ◌++◌, length, take, drop, IsUtf8, refl, sym, ap, ◌∙◌, subst, arith, length-append, append_assoc}
use Rattle.std.specs.Prelude.{IsTrue, Some, Ok}
use Rattle.std.specs.List.{list_all}
use Rattle.std.proofs.Math.Seq.{take-append_seam, drop-append-add}
use Rattle.std.proofs.lemmas.Str.{IsUtf8-append, IsUtf8-nil}
use Rattle.std.proofs.lemmas.Bool.{and_parts, and_from}
use Rattle.json_tokens.specs.TextToken.{is_unescaped}
use Rattle.json_tokens.specs.TextReaders.{GivesText}
use Rattle.json_tokens.specs.RunLengths.{first_of}
use Rattle.decimal_json.specs.PlainTexts.{IsPlainText}
use Rattle.decimal_json.specs.Chars.{IsFound, is_plain_ascii}
use Rattle.decimal_json.specs.declared.chars.CharFront.TheVariants.{Whole}
use Rattle.decimal_json.proofs.Pieces.{ArePlain}
use Rattle.decimal_json.proofs.Steps.{passes_plains}
use Rattle.decimal_json.proofs.TextFaults.{beyond_plain}
use Rattle.decimal_json.proofs.TextTaken.{plain_parts}
use Rattle.decimal_json.proofs.Whole.{gives_text}

-- What was passed so far.
pub record Passed (b left : List ℕ) : Type 0 where
  pub front : List ℕ
  pub cut : b ≡ front ++ left
  pub plain : ArePlain front
  pub utf8 : IsUtf8 front

pub passed_nothing : (b left : List ℕ) → left ≡ b → Passed b left
passed_nothing b left e = record { front = []; cut = sym e; plain = refl; utf8 = IsUtf8-nil }

both_plain : (x y : List ℕ) → ArePlain x → ArePlain y → ArePlain (x ++ y)
both_plain [] y h k = k
both_plain (c ∷ x) y h k =
    let parts = and_parts (is_unescaped c) (list_all is_unescaped x) h in
    and_from (is_unescaped c) (list_all is_unescaped (x ++ y)) parts.0 (both_plain x y parts.1 k)

pub passed_more : (b left taken rest : List ℕ) → Passed b left → left ≡ taken ++ rest → ArePlain taken → IsUtf8 taken → Passed b rest
passed_more b left taken rest before e plain utf8 = record {
  front = before.front ++ taken;
  cut = before.cut ∙ ap (λ w. before.front ++ w) e ∙ sym (append_assoc before.front taken rest);
  plain = both_plain before.front taken before.plain plain;
  utf8 = IsUtf8-append before.front taken before.utf8 utf8;
}

gives_front : (b front rest : List ℕ) → b ≡ front ++ 34 ∷ rest → ArePlain front → IsUtf8 front → GivesText (λ (t : List ℕ). t) b (Ok front) rest
gives_front b front rest cut plain utf8 =
    gives_text (λ (t : List ℕ). t) b (34 ∷ rest) front (record { front = front; cut = cut; high = tt; passed = passes_plains front plain utf8 }) front rest refl refl

plain_front : (b front rest : List ℕ) (count : ℕ) → b ≡ front ++ 34 ∷ rest → count ≡ length front → ArePlain front → IsUtf8 front → IsPlainText b count
plain_front b front rest count cut n plain utf8 =
    let lengths = ap length cut in
    let taken : take count b ≡ front = ap (λ k. take k b) n ∙ ap (take (length front)) cut ∙ take-append_seam front (34 ∷ rest) in
    let left : drop (count + 1) b ≡ rest = ap (λ k. drop (k + 1) b) n ∙ ap (drop (length front + 1)) cut ∙ drop-append-add front (34 ∷ rest) 1 in
    record {
      within = omega (arith, lengths, length-append front (34 ∷ rest), n);
      utf8 = subst IsUtf8 (sym taken) utf8;
      gives =
          let P : List ℕ → Type 0 = λ w. GivesText (λ (t : List ℕ). t) b (Ok w) (drop (count + 1) b) in
          let Q : List ℕ → Type 0 = λ w. GivesText (λ (t : List ℕ). t) b (Ok front) w in
          subst P (sym taken) (subst Q (sym left) (gives_front b front rest cut plain utf8));
    }

pub passed_text : (b left : List ℕ) (count : ℕ) → Passed b left → first_of left ≡ Some 34 → count ≡ length b - length left → IsPlainText b count
passed_text b [] count before e n = absurd (cc)
passed_text b (c ∷ rest) count before e n =
    let mark : c ≡ 34 = cc in
    let lengths = ap length before.cut in
    let m : count ≡ length before.front = omega (arith, lengths, length-append before.front (c ∷ rest), n) in
    plain_front b before.front rest count (before.cut ∙ ap (λ w. before.front ++ w ∷ rest) mark) m before.plain before.utf8

-- ---- one step
pub run_plain : (b : List ℕ) (count : ℕ) → IsTrue (list_all is_plain_ascii (take count b)) → ArePlain (take count b)
run_plain b count h = (plain_parts (take count b) h).0

pub run_utf8 : (b : List ℕ) (count : ℕ) → IsTrue (list_all is_plain_ascii (take count b)) → IsUtf8 (take count b)
run_utf8 b count h = (plain_parts (take count b) h).1

pub char_plain : (b : List ℕ) (count : ℕ) → IsFound b (Whole count) → ArePlain (take count b)
char_plain b count found = beyond_plain (take count b) found.2.bytes

pub char_utf8 : (b : List ℕ) (count : ℕ) → IsFound b (Whole count) → IsUtf8 (take count b)
char_utf8 b count found = found.2.utf8
