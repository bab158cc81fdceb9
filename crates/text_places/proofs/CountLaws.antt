-- A place that is counted on from another.
use Rattle.std.proofs.Common.{◌≡◌, ◌∙◌, refl, ap, ℕ, zero, suc, ◌+◌, ◌-◌, ◌≤◌, List, [], ◌∷◌, Bool, true, false, drop, take, length, arith}
use Rattle.std.specs.Prelude.{if◌then◌else◌, ◌==◌}
use Rattle.text_places.specs.Counting.{IsCounted}
use Rattle.text_places.specs.LineColumn.{after_byte, after_bytes, first_place, goes_on}
use Rattle.text_places.specs.declared.place.CountedPlace.{CountedPlace}
use Rattle.text_places.specs.declared.place.TextPlace.{TextPlace}

abbrev next_place : (ends goes : Bool) → TextPlace → TextPlace
next_place ends goes p =
    if ends then record { line = p.line + 1; column = 1 }
    else if goes then p
    else record { line = p.line; column = p.column + 1 }

next_line : (ends goes : Bool) (p : TextPlace) → (next_place ends goes p).line ≤ p.line + 1
next_line true goes p = omega arith
next_line false true p = omega arith
next_line false false p = omega arith

next_column : (ends goes : Bool) (p : TextPlace) → (next_place ends goes p).column ≤ p.column + 1
next_column true goes p = omega arith
next_column false true p = omega arith
next_column false false p = omega arith

line_within : (p : TextPlace) (b : List ℕ) → (after_bytes p b).line ≤ p.line + length b
line_within p [] = omega arith
line_within p (c ∷ b) =
    let step : (after_byte p c).line ≤ p.line + 1 = next_line (c == 10) (goes_on c) p in
    let rest : (after_bytes (after_byte p c) b).line ≤ (after_byte p c).line + length b = line_within (after_byte p c) b in
    omega (arith, step, rest)

column_within : (p : TextPlace) (b : List ℕ) → (after_bytes p b).column ≤ p.column + length b
column_within p [] = omega arith
column_within p (c ∷ b) =
    let step : (after_byte p c).column ≤ p.column + 1 = next_column (c == 10) (goes_on c) p in
    let rest : (after_bytes (after_byte p c) b).column ≤ (after_byte p c).column + length b = column_within (after_byte p c) b in
    omega (arith, step, rest)

taken_short : (n : ℕ) (b : List ℕ) → length (take n b) ≤ n
taken_short zero b = omega arith
taken_short (suc n) [] = omega arith
taken_short (suc n) (c ∷ b) = omega (arith, taken_short n b)

pub counted_line : (text : List ℕ) (c : CountedPlace) → IsCounted text c → c.place.line ≤ 1 + c.at
counted_line text c h =
    let same : c.place.line ≡ (after_bytes first_place (take c.at text)).line = ap (λ (p : TextPlace). p.line) h.1 in
    omega (arith, same, line_within first_place (take c.at text), taken_short c.at text)

pub counted_column : (text : List ℕ) (c : CountedPlace) → IsCounted text c → c.place.column ≤ 1 + c.at
counted_column text c h =
    let same : c.place.column ≡ (after_bytes first_place (take c.at text)).column = ap (λ (p : TextPlace). p.column) h.1 in
    omega (arith, same, column_within first_place (take c.at text), taken_short c.at text)

none_taken : (n : ℕ) → take {A = ℕ} n [] ≡ []
none_taken zero = refl
none_taken (suc n) = refl

-- the bytes from one place to another
pub over_between : (a b : ℕ) (text : List ℕ) (p : TextPlace) → a ≤ b → after_bytes (after_bytes p (take a text)) (take (b - a) (drop a text)) ≡ after_bytes p (take b text)
over_between zero b text p h =
    let all : b - 0 ≡ b = omega arith in
    ap (λ (n : ℕ). after_bytes p (take n text)) all
over_between (suc a) zero text p h = absurd (omega arith)
over_between (suc a) (suc b) [] p h = ap (after_bytes p) (none_taken (suc b - suc a))
over_between (suc a) (suc b) (c ∷ text) p h =
    let less : suc b - suc a ≡ b - a = omega arith in
    ap (λ (n : ℕ). after_bytes (after_bytes (after_byte p c) (take a text)) (take n (drop a text))) less
    ∙ over_between a b text (after_byte p c) (omega (arith, h))
