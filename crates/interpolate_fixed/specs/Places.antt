-- Places among the inputs of stops. Each input is a number, seen as its whole count of millionths.
-- Source: own.
use Rattle.std.specs.Prelude.{ℕ, ◌-◌, ℤ, pos, int_le, List, length, slice_index_or, if◌then◌else◌}
use Rattle.std.specs.List.{count_by}
use Rattle.interpolate_fixed.specs.declared.place.StopPlace.{StopPlace}
use Rattle.interpolate_fixed.specs.declared.place.StopPlace.TheVariants.{First, Last, Between}

-- the input at a place from 0, which is within the list where this is cited
abbrev pub input_at : List ℤ → ℕ → ℤ
input_at inputs i = slice_index_or inputs i (pos 0)

abbrev pub first_of : List ℤ → ℤ
first_of inputs = input_at inputs 0

abbrev pub last_of : List ℤ → ℤ
last_of inputs = input_at inputs (length inputs - 1)

-- how many inputs are not above x
unfoldable pub count_not_above : ℤ → List ℤ → ℕ
count_not_above x inputs = count_by (λ input. int_le input x) inputs

-- the place of x among inputs that ascend: at or below the first, else at or above the last, else from the
-- greatest input that is not above it, which is the last of those that are not above it
abbrev pub place_of : List ℤ → ℤ → StopPlace
place_of inputs x =
    if int_le x (first_of inputs) then First else
    (if int_le (last_of inputs) x then Last else
    Between (count_not_above x inputs - 1))
