-- How a test on texts changes.
use Rattle.std.specs.Prelude.{◌≡◌, ℕ, ◌+◌, ◌-◌, ◌^◌, min, List, Bool, if◌then◌else◌}
use Rattle.std.specs.Str.{bytes_eq}

-- the new test answers `present` for this text, and for every other text what the old one answers
abbrev pub ChangesAt : (List ℕ → Bool) → (List ℕ → Bool) → List ℕ → Bool → Type 0
ChangesAt old new text present = (other : List ℕ) → new other ≡ (if bytes_eq text other then present else old other)

-- the new test answers for every text what the old one answers
abbrev pub IsSameTest : (List ℕ → Bool) → (List ℕ → Bool) → Type 0
IsSameTest old new = (text : List ℕ) → new text ≡ old text

-- One more, and not above the greatest number of 64 bits. Source: own.
abbrev pub counted : ℕ → ℕ
counted n = min (n + 1) (2 ^ 64 - 1)

-- How often a test was told, after it is told once more: calls of a test that cannot change are not counted.
-- Source: own.
abbrev pub count_after : Bool → ℕ → ℕ
count_after can_change n = if can_change then counted n else n
