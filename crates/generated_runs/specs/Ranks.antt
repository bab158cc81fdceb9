-- The numbers of the generator. Source: own.
use Rattle.std.specs.Prelude.{ℕ, ◌+◌, ◌*◌, ◌/◌, ◌%◌, ◌^◌}

-- each number from the one before it
abbrev pub next : ℕ → ℕ
next x = (1103515245 * x + 12345) % 2 ^ 31

-- the rank that a number gives, from 0 to 99
abbrev pub rank : ℕ → ℕ
rank x = x / 65536 % 100
