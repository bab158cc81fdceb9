-- Where the walk of the automaton over the bytes ends.
use Rattle.std.specs.Prelude.{◌≡◌, ◌≤◌, ◌<◌, ◌+◌, ℕ, List, [], ◌∷◌, length, Bool, true, false, if◌then◌else◌, Option}
use Rattle.std.specs.Prelude.{Some, None}
use Rattle.json_tokens.specs.declared.kind.JsonKind.{JsonKind}
use Rattle.json_tokens.specs.declared.kind.JsonKind.TheVariants.{Syntax, NumberLength}
use Rattle.decimal_json.specs.declared.phase.Phase.{Phase}
use Rattle.decimal_json.specs.declared.phase.Phase.TheVariants.{Start, Minus, Zero, Digits}
use Rattle.decimal_json.specs.Automaton.{next, is_whole, needed, reached}

-- The bytes lead to the phase, and a number that begins with them may still end within 64 bytes. Source: own.
pub record LeadsTo (front : List ℕ) (p : Phase) : Type 0 where
  pub led : reached (Some Start) front ≡ Some p
  pub fits : length front + needed p ≤ 64

-- Whether an integer may begin after the phase. Source: own.
abbrev pub begins_integer : Phase → Bool
begins_integer Start = true
begins_integer Minus = true
begins_integer _ = false

-- Whether a fraction may begin after the phase. Source: own.
abbrev pub begins_fraction : Phase → Bool
begins_fraction Zero = true
begins_fraction Digits = true
begins_fraction _ = false

-- No number in the phase goes on by the next byte. Source: own.
abbrev pub IsStuck : Phase → List ℕ → Type 0
IsStuck p [] = Unit {0}
IsStuck p (c ∷ left) = next p c ≡ None

-- The next byte leads on, and no number that begins with it ends within 64 bytes. Source: own.
abbrev pub IsTooLong : Phase → ℕ → List ℕ → Type 0
IsTooLong p count [] = ⊥
IsTooLong p count (c ∷ left) = (to : Phase) × (next p c ≡ Some to) × (64 < count + 1 + needed to)

-- What is at fault where a number in the phase does not go on. Source: RFC 8259 §6.
abbrev pub fault_of : Phase → Option JsonKind
fault_of p = if is_whole p then None else Some Syntax

-- Why the walk ends in the phase, after `used` bytes: a number is whole, or there is this fault.
-- Source: own.
abbrev pub EndsBy : Phase → ℕ → Option JsonKind → List ℕ → Type 0
EndsBy p count None left = (is_whole p ≡ true) × IsStuck p left
EndsBy p count (Some Syntax) left = (is_whole p ≡ false) × IsStuck p left
EndsBy p count (Some NumberLength) left = IsTooLong p count left
EndsBy p count _ left = ⊥

-- The walk takes the front and leaves the rest, with this fault or none. Source: own.
pub record IsWalk (front left : List ℕ) (fault : Option JsonKind) : Type 0 where
  pub phase : Phase
  pub leads : LeadsTo front phase
  pub ends : EndsBy phase (length front) fault left
