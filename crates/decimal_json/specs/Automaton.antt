-- The number of RFC 8259 §6 as an automaton: which byte may follow which, and after which
-- one a number may end.
use Rattle.std.specs.Prelude.{ℕ, List, [], ◌∷◌, Bool, true, false, if◌then◌else◌, ◌==◌, ◌||◌, Option, Some, None}
use Rattle.std.specs.Char.{is_ascii_digit}
use Rattle.decimal_json.specs.declared.phase.Phase.{Phase}
use Rattle.decimal_json.specs.declared.phase.Phase.TheVariants.{Start, Minus, Zero, Digits, Point, Fraction, Letter}
use Rattle.decimal_json.specs.declared.phase.Phase.TheVariants.{Sign, Exponent}

-- int = zero / ( digit1-9 *DIGIT ), at its first byte. Source: RFC 8259 §6.
abbrev pub integer_from : ℕ → Option Phase
integer_from c = if c == 48 then Some Zero else if is_ascii_digit c then Some Digits else None

-- exp = e [ minus / plus ] 1*DIGIT, at its letter. Source: RFC 8259 §6.
abbrev pub exponent_from : ℕ → Option Phase
exponent_from c = if c == 101 || c == 69 then Some Letter else None

-- [ frac ] [ exp ], at its first byte. Source: RFC 8259 §6.
abbrev pub fraction_from : ℕ → Option Phase
fraction_from c = if c == 46 then Some Point else exponent_from c

-- A digit of that part, or none.
abbrev pub digit_of : Phase → ℕ → Option Phase
digit_of p c = if is_ascii_digit c then Some p else None

-- Where the byte leads from the phase, or none where no number goes on by it. Source: RFC 8259 §6.
abbrev pub next : Phase → ℕ → Option Phase
next Start c = if c == 45 then Some Minus else integer_from c
next Minus c = integer_from c
next Zero c = fraction_from c
next Digits c = if is_ascii_digit c then Some Digits else fraction_from c
next Point c = digit_of Fraction c
next Fraction c = if is_ascii_digit c then Some Fraction else exponent_from c
next Letter c = if c == 45 || c == 43 then Some Sign else digit_of Exponent c
next Sign c = digit_of Exponent c
next Exponent c = digit_of Exponent c

-- Whether each digit leads from the phase to itself. Source: own.
abbrev pub repeats : Phase → Bool
repeats Start = false
repeats Minus = false
repeats Zero = false
repeats Digits = true
repeats Point = false
repeats Fraction = true
repeats Letter = false
repeats Sign = false
repeats Exponent = true

-- Whether a number may end in the phase. Source: RFC 8259 §6.
abbrev pub is_whole : Phase → Bool
is_whole Start = false
is_whole Minus = false
is_whole Zero = true
is_whole Digits = true
is_whole Point = false
is_whole Fraction = true
is_whole Letter = false
is_whole Sign = false
is_whole Exponent = true

-- How many bytes a number in the phase still needs at least: a digit, where it may not end. Source: own.
abbrev pub needed : Phase → ℕ
needed p = if is_whole p then 0 else 1

-- The phase after one byte more, if there is one.
abbrev pub next_of : Option Phase → ℕ → Option Phase
next_of None c = None
next_of (Some p) c = next p c

-- The phase that the bytes lead to, if there is one. Source: own.
abbrev pub reached : Option Phase → List ℕ → Option Phase
reached o [] = o
reached o (c ∷ b) = reached (next_of o c) b

abbrev pub is_whole_of : Option Phase → Bool
is_whole_of None = false
is_whole_of (Some p) = is_whole p

-- Whether the automaton takes all of the bytes and may end after them. Source: own.
abbrev pub is_accepted : List ℕ → Bool
is_accepted b = is_whole_of (reached (Some Start) b)
