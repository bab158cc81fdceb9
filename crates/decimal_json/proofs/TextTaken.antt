-- What the readers of parts take, put together.
use Rattle.std.proofs.Common.{◌≡◌, ◌≢◌, ℕ, zero, suc, ◌+◌, ◌*◌, ◌<◌, ◌≤◌, List, [], ◌∷◌, ◌++◌, take, drop, IsUtf8, ltb-true, Bool, true, false, refl, sym, ap, ◌∙◌, subst, arith}
use Rattle.std.specs.Prelude.{IsTrue, Option, Some, None, Result, Ok, Err, nat_lt}
use Rattle.std.specs.List.{list_all}
use Rattle.std.proofs.lemmas.Bool.{and_parts, and_from}
use Rattle.std.proofs.lemmas.Str.{IsUtf8-nil}
use Rattle.json_tokens.specs.declared.kind.JsonKind.{JsonKind}
use Rattle.json_tokens.specs.declared.kind.JsonKind.TheVariants.{LoneSurrogate}
use Rattle.json_tokens.specs.RunLengths.{first_of}
use Rattle.json_tokens.specs.TextToken.{is_unescaped, hex_value, letter_unit, by_letter, by_digits}
use Rattle.decimal_json.specs.declared.chars.CharFront.TheVariants.{Whole, Cut}
use Rattle.decimal_json.specs.Follows.{is_due, IsDueHigh, StopsText, Moves}
use Rattle.decimal_json.specs.TextParts.{TakesDigit, TakesEscape, least_digit, most_digit, IsWritten, cut_kind, due_kind}
use Rattle.decimal_json.specs.Chars.{IsFound, IsCut, IsBeyondAscii, is_plain_ascii}
use Rattle.decimal_json.proofs.Pieces.{ArePlain}
use Rattle.decimal_json.proofs.Utf8.{ascii_then}
use Rattle.decimal_json.proofs.Steps.{passes_plains, passes_escape, next_is_high}
use Rattle.decimal_json.proofs.Escapes.{place_stops, digit_small, fits_two, unit_fits, unit_of}
use Rattle.decimal_json.proofs.TextPlaces.{place_one, place_two, place_three, place_four, two_fit, stops_letter}
use Rattle.decimal_json.proofs.Firsts.{letter_low}
use Rattle.decimal_json.proofs.TextFaults.{beyond_plain, stops_part, stops_due}

-- ---- the digits of a code unit
pub record OneTaken (due : Option ℕ) (b : List ℕ) (d3 : ℕ) (left : List ℕ) : Type 0 where
  pub c3 : ℕ
  pub cut : b ≡ c3 ∷ left
  pub h3 : hex_value c3 ≡ Some d3
  pub least : least_digit (is_due due) 0 ≤ d3
  pub most : d3 ≤ most_digit (is_due due) 0 0

pub record TwoTaken (due : Option ℕ) (b : List ℕ) (d3 d2 : ℕ) (left : List ℕ) : Type 0 where
  pub c3 : ℕ
  pub c2 : ℕ
  pub cut : b ≡ c3 ∷ c2 ∷ left
  pub h3 : hex_value c3 ≡ Some d3
  pub h2 : hex_value c2 ≡ Some d2
  pub fits : fits_two (is_due due) d3 d2

pub record ThreeTaken (due : Option ℕ) (b : List ℕ) (d3 d2 d1 : ℕ) (left : List ℕ) : Type 0 where
  pub c1 : ℕ
  pub mid : List ℕ
  pub two : TwoTaken due b d3 d2 mid
  pub cut : mid ≡ c1 ∷ left
  pub h1 : hex_value c1 ≡ Some d1

-- The digits before this place were taken, and this is their value.
abbrev pub DigitsTaken : Option ℕ → List ℕ → ℕ → ℕ → List ℕ → Type 0
DigitsTaken due b zero unit left = (unit ≡ 0) × (left ≡ b)
DigitsTaken due b (suc zero) unit left = OneTaken due b unit left
DigitsTaken due b (suc (suc zero)) unit left = (d3 : ℕ) × (d2 : ℕ) × (unit ≡ d3 * 16 + d2) × TwoTaken due b d3 d2 left
DigitsTaken due b (suc (suc (suc zero))) unit left = (d3 : ℕ) × (d2 : ℕ) × (d1 : ℕ) × (unit ≡ (d3 * 16 + d2) * 16 + d1) × ThreeTaken due b d3 d2 d1 left
DigitsTaken due b (suc (suc (suc (suc place)))) unit left = TakesEscape due (92 ∷ 117 ∷ []) b (Ok unit) left × (unit < 65536)

-- What a digit is within the bounds of its place.
abbrev pub TakesNext : Option ℕ → ℕ → ℕ → List ℕ → Result ℕ JsonKind → List ℕ → Type 0
TakesNext due place unit b answer left = TakesDigit (least_digit (is_due due) place) (most_digit (is_due due) place unit) b answer left

pub next_digit : (due : Option ℕ) (flag : Bool) (place unit least most : ℕ) (b left : List ℕ) (answer : Result ℕ JsonKind) → flag ≡ is_due due → least ≡ least_digit flag place → most ≡ most_digit flag place unit → TakesDigit least most b answer left → TakesNext due place unit b answer left
next_digit due flag place unit least most b left answer f l m h =
    subst (λ n. TakesDigit (least_digit (is_due due) place) n b answer left) (m ∙ ap (λ t. most_digit t place unit) f)
    (subst (λ n. TakesDigit n most b answer left) (l ∙ ap (λ t. least_digit t place) f) h)

two_taken : (due : Option ℕ) (d3 d2 : ℕ) (b mid left : List ℕ) → OneTaken due b d3 mid → TakesNext due 1 d3 mid (Ok d2) left → TwoTaken due b d3 d2 left
two_taken due d3 d2 b mid left one (c2, cut, h2, low, high) = record {
  c3 = one.c3;
  c2 = c2;
  cut = one.cut ∙ ap (λ w. one.c3 ∷ w) cut;
  h3 = one.h3;
  h2 = h2;
  fits = two_fit due d3 d2 one.least one.most low high;
}

three_cut : (due : Option ℕ) (d3 d2 d1 : ℕ) (b left : List ℕ) → (three : ThreeTaken due b d3 d2 d1 left) → b ≡ three.two.c3 ∷ three.two.c2 ∷ three.c1 ∷ left
three_cut due d3 d2 d1 b left three = three.two.cut ∙ ap (λ w. three.two.c3 ∷ three.two.c2 ∷ w) three.cut

unit_taken : (due : Option ℕ) (d3 d2 d1 d0 : ℕ) (b mid left : List ℕ) → ThreeTaken due b d3 d2 d1 mid → TakesDigit 0 15 mid (Ok d0) left → TakesEscape due (92 ∷ 117 ∷ []) b (Ok (unit_of d3 d2 d1 d0)) left × (unit_of d3 d2 d1 d0 < 65536)
unit_taken due d3 d2 d1 d0 b mid left three (c0, cut, h0, low, high) =
    let two = three.two in
    let small3 = digit_small two.c3 d3 two.h3 in
    let small2 = digit_small two.c2 d2 two.h2 in
    let small1 = digit_small three.c1 d1 three.h1 in
    let small0 = digit_small c0 d0 h0 in (
      (
        92 ∷ 117 ∷ two.c3 ∷ two.c2 ∷ three.c1 ∷ c0 ∷ [],
        ap (λ w. 92 ∷ 117 ∷ w) (three_cut due d3 d2 d1 b mid three ∙ ap (λ w. two.c3 ∷ two.c2 ∷ three.c1 ∷ w) cut),
        by_digits two.c3 two.c2 three.c1 c0 d3 d2 d1 d0 two.h3 two.h2 three.h1 h0,
        unit_fits (is_due due) d3 d2 d1 d0 two.fits small2 small1 small0,
      ),
      omega arith,
    )

-- One digit more.
pub digit_taken : (due : Option ℕ) (place unit d next : ℕ) (b mid left : List ℕ) → place < 4 → DigitsTaken due b place unit mid → TakesNext due place unit mid (Ok d) left → next ≡ unit * 16 + d → DigitsTaken due b (suc place) next left
digit_taken due zero unit d next b mid left within (none, here) (c3, cut, h3, low, high) e =
    let same : d ≡ next = omega arith in
    subst (λ n. OneTaken due b n left) same (record { c3 = c3; cut = sym here ∙ cut; h3 = h3; least = low; most = high })
digit_taken due (suc zero) unit d next b mid left within one h e = (unit, d, e, two_taken due unit d b mid left one h)
digit_taken due (suc (suc zero)) unit d next b mid left within (d3, d2, is, two) (c1, cut, h1, low, high) e =
    (d3, d2, d, omega arith, record { c1 = c1; mid = mid; two = two; cut = cut; h1 = h1 })
digit_taken due (suc (suc (suc zero))) unit d next b mid left within (d3, d2, d1, is, three) h e =
    let same : unit_of d3 d2 d1 d ≡ next = omega arith in
    subst (λ n. TakesEscape due (92 ∷ 117 ∷ []) b (Ok n) left × (n < 65536)) same (unit_taken due d3 d2 d1 d b mid left three h)
digit_taken due (suc (suc (suc (suc place)))) unit d next b mid left within h g e = absurd (omega arith)

-- The value of fewer than four digits.
pub digits_small : (due : Option ℕ) (place unit : ℕ) (b left : List ℕ) → place < 4 → DigitsTaken due b place unit left → unit < 4096
digits_small due zero unit b left within (none, here) = omega arith
digits_small due (suc zero) unit b left within one = let a = digit_small one.c3 unit one.h3 in omega arith
digits_small due (suc (suc zero)) unit b left within (d3, d2, is, two) =
    let a = digit_small two.c3 d3 two.h3 in
    let c = digit_small two.c2 d2 two.h2 in
    omega arith
digits_small due (suc (suc (suc zero))) unit b left within (d3, d2, d1, is, three) =
    let a = digit_small three.two.c3 d3 three.two.h3 in
    let c = digit_small three.two.c2 d2 three.two.h2 in
    let d = digit_small three.c1 d1 three.h1 in
    omega arith
digits_small due (suc (suc (suc (suc place)))) unit b left within h = absurd (omega arith)

-- No digit more.
pub digits_stop : (due : Option ℕ) (place unit : ℕ) (b mid left : List ℕ) (kind : JsonKind) → place < 4 → DigitsTaken due b place unit mid → TakesNext due place unit mid (Err kind) left → StopsText due kind (92 ∷ 117 ∷ b) left
digits_stop due zero unit b mid left kind within (none, here) h =
    subst (λ w. StopsText due kind (92 ∷ 117 ∷ w) left) here (place_stops due (92 ∷ 117 ∷ []) _ _ (place_one due) mid left kind h)
digits_stop due (suc zero) unit b mid left kind within one h =
    subst (λ w. StopsText due kind (92 ∷ 117 ∷ w) left) (sym one.cut) (place_stops due (92 ∷ 117 ∷ one.c3 ∷ []) _ _ (place_two due one.c3 unit one.h3 one.least one.most) mid left kind h)
digits_stop due (suc (suc zero)) unit b mid left kind within (d3, d2, is, two) h =
    subst (λ w. StopsText due kind (92 ∷ 117 ∷ w) left) (sym two.cut) (place_stops due (92 ∷ 117 ∷ two.c3 ∷ two.c2 ∷ []) 0 15 (place_three due two.c3 two.c2 d3 d2 two.h3 two.h2 two.fits) mid left kind h)
digits_stop due (suc (suc (suc zero))) unit b mid left kind within (d3, d2, d1, is, three) h =
    let two = three.two in
    subst (λ w. StopsText due kind (92 ∷ 117 ∷ w) left) (sym (three_cut due d3 d2 d1 b mid three))
    (place_stops due (92 ∷ 117 ∷ two.c3 ∷ two.c2 ∷ three.c1 ∷ []) 0 15 (place_four due two.c3 two.c2 three.c1 d3 d2 d1 two.h3 two.h2 three.h1 two.fits) mid left kind h)
digits_stop due (suc (suc (suc (suc place)))) unit b mid left kind within h g = absurd (omega arith)

-- ---- a letter
pub stops_due_letter : (due : Option ℕ) (b left : List ℕ) (c u : ℕ) → is_due due ≡ true → b ≡ 92 ∷ left → first_of left ≡ Some c → letter_unit c ≡ Some u → StopsText due LoneSurrogate b left
stops_due_letter None b left c u is s e l = cc
stops_due_letter (Some high) b left c u is s e l = stops_letter high b left c u s e l

pub letter_taken : (due : Option ℕ) (b mid left : List ℕ) (c u : ℕ) → is_due due ≡ false → b ≡ 92 ∷ mid → mid ≡ c ∷ left → letter_unit c ≡ Some u → TakesEscape due [] b (Ok u) left
letter_taken due b mid left c u is s e l = (92 ∷ c ∷ [], s ∙ ap (λ w. 92 ∷ w) e, by_letter c u l, letter_low c u l ∙ sym is)

-- ---- characters and bytes
pub char_taken : (b rest front left old new : List ℕ) (count : ℕ) → rest ≡ b → IsFound rest (Whole count) → b ≡ front ++ left → front ≡ take count b → new ≡ old ++ front → Moves None b old left new None
char_taken b rest front left old new count same found s f w =
    let P : List ℕ → Type 0 = λ z. IsFound z (Whole count) in
    let k = (subst P same found).2 in
    let utf8 = subst IsBeyondAscii (sym f) k in
    (front, front, s, w, tt, passes_plains front (beyond_plain front utf8.bytes) utf8.utf8)

pub char_cut : (b rest front left : List ℕ) (count : ℕ) (next : Option ℕ) (kind : JsonKind) → rest ≡ b → IsFound rest (Cut count) → b ≡ front ++ left → front ≡ take count b → left ≡ drop count b → next ≡ first_of left → kind ≡ cut_kind next → StopsText None kind b left
char_cut b rest front left count next kind same found s f d n k =
    let P : List ℕ → Type 0 = λ z. IsFound z (Cut count) in
    let Q : List ℕ → Type 0 = λ z. IsCut z (drop count b) in
    let R : List ℕ → Type 0 = λ z. IsCut front z in
    let cut : IsCut front left = subst R (sym d) (subst Q (sym f) (subst P same found).1) in
    let S : JsonKind → Type 0 = λ z. StopsText None z b left in
    subst S (sym (k ∙ ap cut_kind n)) (front, s, λ bound. stops_part front left cut bound)

pub plain_parts : (b : List ℕ) → IsTrue (list_all is_plain_ascii b) → ArePlain b × IsUtf8 b
plain_parts [] h = (refl, IsUtf8-nil)
plain_parts (c ∷ b) h =
    let parts = and_parts (is_plain_ascii c) (list_all is_plain_ascii b) h in
    let one = and_parts (is_unescaped c) (nat_lt c 128) parts.0 in
    let rest = plain_parts b parts.1 in
    (and_from (is_unescaped c) (list_all is_unescaped b) one.0 rest.0, ascii_then c b (ltb-true c 128 one.1) rest.1)

pub run_taken : (b rest front left old new : List ℕ) (count : ℕ) → rest ≡ b → IsTrue (list_all is_plain_ascii (take count rest)) → b ≡ front ++ left → front ≡ take count b → new ≡ old ++ front → Moves None b old left new None
run_taken b rest front left old new count same all s f w =
    let P : List ℕ → Type 0 = λ z. IsTrue (list_all is_plain_ascii (take count z)) in
    let Q : List ℕ → Type 0 = λ z. IsTrue (list_all is_plain_ascii z) in
    let parts = plain_parts front (subst Q (sym f) (subst P same all)) in
    (front, front, s, w, tt, passes_plains front parts.0 parts.1)

pub escape_taken : (due : Option ℕ) (b left old new : List ℕ) (u : ℕ) (next_due : Option ℕ) → IsDueHigh due → TakesEscape due [] b (Ok u) left → u < 65536 → (out : List ℕ) × (new ≡ old ++ out) × IsWritten due u out next_due → Moves due b old left new next_due
escape_taken due b left old new u next_due high (code, s, is, fits) small (out, w, written) =
    (code, out, s, w, next_is_high due u out next_due written, passes_escape due u code out next_due is small fits high written)

pub due_stops : (due : Option ℕ) (b : List ℕ) (c : ℕ) (kind : JsonKind) → first_of b ≡ Some c → is_due due ≡ true → c ≢ 34 → c ≢ 92 → kind ≡ due_kind c → StopsText due kind b b
due_stops due b c kind e is m n k =
    let S : JsonKind → Type 0 = λ z. StopsText due z b b in
    subst S (sym k) ([], refl, stops_due due b c e is m n)
