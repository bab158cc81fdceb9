-- Inputs of stops.
use Rattle.std.specs.Prelude.{◌<◌, ℤ, ◌<ℤ◌, List, length}
use Rattle.interpolate_fixed.specs.Places.{last_of}

-- The number is above the last of some inputs, where there is one.
abbrev pub IsAboveLast : ℤ → List ℤ → Type 0
IsAboveLast z inputs = 0 < length inputs → last_of inputs <ℤ z
