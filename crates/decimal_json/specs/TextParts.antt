-- What the readers of the parts of an escape answer.
use Rattle.std.specs.Prelude.{◌≡◌, ◌≤◌, ◌<◌, ℕ, List, [], ◌∷◌, ◌++◌, Option, Some, None, Result, Ok, Err, encode_utf8}
use Rattle.std.specs.Prelude.{◌⊎◌, if◌then◌else◌, ◌==◌, Bool, true, false, ◌&&◌, ◌||◌, nat_le, nat_lt}
use Rattle.json_tokens.specs.declared.kind.JsonKind.{JsonKind}
use Rattle.json_tokens.specs.declared.kind.JsonKind.TheVariants.{Syntax, Utf8, DuplicateKey, Depth, NumberLength}
use Rattle.json_tokens.specs.declared.kind.JsonKind.TheVariants.{LoneSurrogate}
use Rattle.json_tokens.specs.TextToken.{hex_value, IsEscape, is_low, is_high, paired}
use Rattle.decimal_json.specs.Follows.{is_due, StopsText}

-- The bytes begin with no hexadecimal digit. Source: RFC 8259 §7.
abbrev pub HasNoDigit : List ℕ → Type 0
HasNoDigit [] = Unit {0}
HasNoDigit (c ∷ b) = hex_value c ≡ None

-- A digit from `least` to `most` was taken; or none is there, or one that makes a surrogate are
-- in no pair. Source: own.
abbrev pub TakesDigit : ℕ → ℕ → List ℕ → Result ℕ JsonKind → List ℕ → Type 0
TakesDigit least most b (Ok digit) left =
    (c : ℕ) × (b ≡ c ∷ left) × (hex_value c ≡ Some digit) × (least ≤ digit) × (digit ≤ most)
TakesDigit least most b (Err Syntax) left = (left ≡ b) × HasNoDigit b
TakesDigit least most b (Err LoneSurrogate) left =
    (left ≡ b) × ((c : ℕ) × (digit : ℕ) × (rest : List ℕ) × (b ≡ c ∷ rest) × (hex_value c ≡ Some digit)
    × ((digit < least) ⊎ (most < digit)))
TakesDigit least most b (Err Utf8) left = ⊥
TakesDigit least most b (Err DuplicateKey) left = ⊥
TakesDigit least most b (Err Depth) left = ⊥
TakesDigit least most b (Err NumberLength) left = ⊥

-- The least and the greatest digit that may be at a place of a code unit, counted from 0, after digits of
-- this value: of a second surrogate, from DC00 on, where one is due, and else of none. Source: own.
abbrev pub least_digit : Bool → ℕ → ℕ
least_digit due place =
    if place == 0 then (if due then 13 else 0) else
    if place == 1 then (if due then 12 else 0) else
    0

abbrev pub most_digit : Bool → ℕ → ℕ → ℕ
most_digit due place front =
    if place == 0 then (if due then 13 else 15) else
    if place == 1 then (if due then 15 else (if front == 13 then 11 else 15)) else
    15

-- An escape was taken, of which the bytes `before` were taken earlier: of a second surrogate where one
-- is due, and else of none; or no text goes on. Source: own.
abbrev pub TakesEscape : Option ℕ → List ℕ → List ℕ → Result ℕ JsonKind → List ℕ → Type 0
TakesEscape due before b (Ok unit) left =
    (code : List ℕ) × (before ++ b ≡ code ++ left) × IsEscape unit code × (is_low unit ≡ is_due due)
TakesEscape due before b (Err kind) left = StopsText due kind (before ++ b) left

-- What a code unit means that follows no first surrogate, and what is then due: a first surrogate
-- waits for the second. Source: RFC 8259 §7.
abbrev pub IsWrittenAlone : Bool → ℕ → List ℕ → Option ℕ → Type 0
IsWrittenAlone true unit out next_due = (out ≡ []) × (next_due ≡ Some unit)
IsWrittenAlone false unit out next_due = (out ≡ encode_utf8 unit) × (next_due ≡ None)

-- The same after a first surrogate too, with which it means one character. Source: RFC 8259 §7.
abbrev pub IsWritten : Option ℕ → ℕ → List ℕ → Option ℕ → Type 0
IsWritten None unit out next_due = IsWrittenAlone (is_high unit) unit out next_due
IsWritten (Some high) unit out next_due = (out ≡ encode_utf8 (paired high unit)) × (next_due ≡ None)

-- The kind of a fault after a part of a character, by the byte that is there. Source: own.
abbrev pub cut_kind : Option ℕ → JsonKind
cut_kind None = Syntax
cut_kind (Some c) = if nat_le 32 c then Utf8 else Syntax

-- A byte of ASCII that is no control byte, or that begins a character of more bytes. Source: RFC 3629 §4.
abbrev pub begins_plain : ℕ → Bool
begins_plain c = nat_le 32 c && ((nat_lt c 128 || nat_le 194 c) && nat_le c 244)

-- The kind of a fault at a byte that is where the escape of a second surrogate is due: at a byte that
-- goes on a text once that rule is dropped, and at one that does not. Source: own.
abbrev pub due_kind : ℕ → JsonKind
due_kind c = if begins_plain c then LoneSurrogate else Syntax
