-- Counts that stop growing once they are past every bound. The contracts of calls that read digits
-- alone cite these. Source: own.
use Rattle.std.specs.Prelude.{ℕ, min}

-- 10^27, a number past every bound
abbrev pub past : ℕ
past = 1000000000000000000000000000

-- n, or `past` where n is greater
abbrev pub saturated : ℕ → ℕ
saturated n = min n past
