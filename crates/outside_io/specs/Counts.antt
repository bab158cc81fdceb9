-- Counts that never fall. A counter of 64 bits remains at its last value, 2^64 - 1.
use Rattle.std.specs.Prelude.{ℕ, ◌+◌, ◌<◌, ◌≤◌, min}

-- the counter raised by n, or at its last value
abbrev pub raised_by : ℕ → ℕ → ℕ
raised_by n count = min (count + n) 18446744073709551615

-- the counter raised by one, or at its last value
abbrev pub raised : ℕ → ℕ
raised count = raised_by 1 count

-- the count rose, or is at its counter's last value, which counts as risen
abbrev pub Rose : ℕ → ℕ → Type 0
Rose old new = min old 18446744073709551614 < new

-- the count did not rise, and is not at its counter's last value: the opposite of `Rose`
abbrev pub Still : ℕ → ℕ → Type 0
Still old new = new ≤ min old 18446744073709551614
