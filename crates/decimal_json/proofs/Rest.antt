-- What may follow the bytes of a phase for them to be a number, in the words of the grammar.
use Rattle.std.proofs.Common.{◌≡◌, ◌≤◌, ℕ, List, [], ◌∷◌, ◌++◌, length, refl, sym, ◌∙◌, ap, arith, append-nil}
use Rattle.std.specs.Prelude.{Bool, true, false, if◌then◌else◌, ◌==◌, ◌&&◌, ◌||◌, Option, Some, None}
use Rattle.std.specs.Char.{is_ascii_digit}
use Rattle.json_tokens.specs.Number.{after_digits, begins_with_digit, is_nothing, after_sign, is_exponent, is_fraction, is_unsigned, is_number}
use Rattle.decimal_json.specs.declared.phase.Phase.{Phase}
use Rattle.decimal_json.specs.declared.phase.Phase.TheVariants.{Start, Minus, Zero, Digits, Point, Fraction, Letter, Sign, Exponent}
use Rattle.decimal_json.specs.Automaton.{integer_from, fraction_from, exponent_from, digit_of, next, next_of, is_whole, is_whole_of, needed, reached, is_accepted}

abbrev pub is_rest : Phase → List ℕ → Bool
is_rest Start b = is_number b
is_rest Minus b = is_unsigned b
is_rest Zero b = is_fraction b
is_rest Digits b = is_fraction (after_digits b)
is_rest Point b = begins_with_digit b && is_exponent (after_digits b)
is_rest Fraction b = is_exponent (after_digits b)
is_rest Letter b = begins_with_digit (after_sign b) && is_nothing (after_digits (after_sign b))
is_rest Sign b = begins_with_digit b && is_nothing (after_digits b)
is_rest Exponent b = is_nothing (after_digits b)

abbrev pub is_rest_of : Option Phase → List ℕ → Bool
is_rest_of None b = false
is_rest_of (Some p) b = is_rest p b

-- Each part of the grammar at a first byte, whatever the tests of that byte answer.
exponent_rest : (letter : Bool) (b : List ℕ) → (letter && (begins_with_digit (after_sign b) && is_nothing (after_digits (after_sign b)))) ≡ is_rest_of (if letter then Some Letter else None) b
exponent_rest true b = refl
exponent_rest false b = refl

fraction_rest : (point : Bool) (c : ℕ) (b : List ℕ) → (if point then begins_with_digit b && is_exponent (after_digits b) else is_exponent (c ∷ b)) ≡ is_rest_of (if point then Some Point else exponent_from c) b
fraction_rest true c b = refl
fraction_rest false c b = exponent_rest (c == 101 || c == 69) b

integer_rest : (zero digit : Bool) (b : List ℕ) → (if zero then is_fraction b else digit && is_fraction (after_digits b)) ≡ is_rest_of (if zero then Some Zero else if digit then Some Digits else None) b
integer_rest true digit b = refl
integer_rest false true b = refl
integer_rest false false b = refl

number_rest : (minus : Bool) (c : ℕ) (b : List ℕ) → is_unsigned (if minus then b else c ∷ b) ≡ is_rest_of (if minus then Some Minus else integer_from c) b
number_rest true c b = refl
number_rest false c b = integer_rest (c == 48) (is_ascii_digit c) b

digits_rest : (digit : Bool) (c : ℕ) (b : List ℕ) → is_fraction (if digit then after_digits b else c ∷ b) ≡ is_rest_of (if digit then Some Digits else fraction_from c) b
digits_rest true c b = refl
digits_rest false c b = fraction_rest (c == 46) c b

point_rest : (digit : Bool) (c : ℕ) (b : List ℕ) → (digit && is_exponent (if digit then after_digits b else c ∷ b)) ≡ is_rest_of (if digit then Some Fraction else None) b
point_rest true c b = refl
point_rest false c b = refl

more_fraction_rest : (digit : Bool) (c : ℕ) (b : List ℕ) → is_exponent (if digit then after_digits b else c ∷ b) ≡ is_rest_of (if digit then Some Fraction else exponent_from c) b
more_fraction_rest true c b = refl
more_fraction_rest false c b = exponent_rest (c == 101 || c == 69) b

sign_rest : (digit : Bool) (c : ℕ) (b : List ℕ) → (digit && is_nothing (if digit then after_digits b else c ∷ b)) ≡ is_rest_of (if digit then Some Exponent else None) b
sign_rest true c b = refl
sign_rest false c b = refl

letter_rest : (sign : Bool) (c : ℕ) (b : List ℕ) → (begins_with_digit (if sign then b else c ∷ b) && is_nothing (after_digits (if sign then b else c ∷ b))) ≡ is_rest_of (if sign then Some Sign else digit_of Exponent c) b
letter_rest true c b = refl
letter_rest false c b = sign_rest (is_ascii_digit c) c b

more_exponent_rest : (digit : Bool) (c : ℕ) (b : List ℕ) → is_nothing (if digit then after_digits b else c ∷ b) ≡ is_rest_of (if digit then Some Exponent else None) b
more_exponent_rest true c b = refl
more_exponent_rest false c b = refl

-- A byte and more may follow a phase exactly where the more may follow the next one.
pub rest_step : (p : Phase) (c : ℕ) (b : List ℕ) → is_rest p (c ∷ b) ≡ is_rest_of (next p c) b
rest_step Start c b = number_rest (c == 45) c b
rest_step Minus c b = integer_rest (c == 48) (is_ascii_digit c) b
rest_step Zero c b = fraction_rest (c == 46) c b
rest_step Digits c b = digits_rest (is_ascii_digit c) c b
rest_step Point c b = point_rest (is_ascii_digit c) c b
rest_step Fraction c b = more_fraction_rest (is_ascii_digit c) c b
rest_step Letter c b = letter_rest (c == 45 || c == 43) c b
rest_step Sign c b = sign_rest (is_ascii_digit c) c b
rest_step Exponent c b = more_exponent_rest (is_ascii_digit c) c b

pub rest_ends : (p : Phase) → is_rest p [] ≡ is_whole p
rest_ends Start = refl
rest_ends Minus = refl
rest_ends Zero = refl
rest_ends Digits = refl
rest_ends Point = refl
rest_ends Fraction = refl
rest_ends Letter = refl
rest_ends Sign = refl
rest_ends Exponent = refl

rest_step_of : (o : Option Phase) (c : ℕ) (b : List ℕ) → is_rest_of o (c ∷ b) ≡ is_rest_of (next_of o c) b
rest_step_of None c b = refl
rest_step_of (Some p) c b = rest_step p c b

rest_behind : (front b : List ℕ) (o : Option Phase) → is_rest_of o (front ++ b) ≡ is_rest_of (reached o front) b
rest_behind [] b o = refl
rest_behind (c ∷ front) b o = rest_step_of o c (front ++ b) ∙ rest_behind front b (next_of o c)

rest_ends_of : (o : Option Phase) → is_rest_of o [] ≡ is_whole_of o
rest_ends_of None = refl
rest_ends_of (Some p) = rest_ends p

-- Bytes after those that lead to a phase make a number exactly where they may follow the phase.
pub number_behind : (front b : List ℕ) (p : Phase) → reached (Some Start) front ≡ Some p → is_number (front ++ b) ≡ is_rest p b
number_behind front b p led = rest_behind front b (Some Start) ∙ ap (λ o. is_rest_of o b) led

-- The automaton accepts the numbers of the grammar.
pub number_accepted : (b : List ℕ) → is_number b ≡ is_accepted b
number_accepted b = ap is_number (sym (append-nil b)) ∙ (rest_behind b [] (Some Start) ∙ rest_ends_of (reached (Some Start) b))

-- The fewest bytes that end a number in the phase.
abbrev pub ending : Phase → List ℕ
ending p = if is_whole p then [] else 48 ∷ []

pub rest_ending : (p : Phase) → is_rest p (ending p) ≡ true
rest_ending Start = refl
rest_ending Minus = refl
rest_ending Zero = refl
rest_ending Digits = refl
rest_ending Point = refl
rest_ending Fraction = refl
rest_ending Letter = refl
rest_ending Sign = refl
rest_ending Exponent = refl

pub length_ending : (p : Phase) → length (ending p) ≡ needed p
length_ending Start = refl
length_ending Minus = refl
length_ending Zero = refl
length_ending Digits = refl
length_ending Point = refl
length_ending Fraction = refl
length_ending Letter = refl
length_ending Sign = refl
length_ending Exponent = refl

needed_by : (whole : Bool) → (if whole then 0 else 1) ≤ 1
needed_by true = omega arith
needed_by false = omega arith

-- No rest is shorter than what the phase needs.
pub needed_least : (p : Phase) (b : List ℕ) → is_rest p b ≡ true → needed p ≤ length b
needed_least p [] h = rw (sym (rest_ends p) ∙ h) (omega arith)
needed_least p (c ∷ b) h = let most = needed_by (is_whole p) in omega arith
