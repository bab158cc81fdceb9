-- Rounding to whole numbers. Source: own.
use Rattle.std.specs.Prelude.{ℕ, suc, ◌+◌, ◌*◌, ◌/◌, ◌<◌, ◌≤◌, ℤ, pos, negsuc, neg_ℤ}

-- the whole number nearest to n / d, the greater of two
abbrev pub nearest : ℕ → ℕ → ℕ
nearest n d = (2 * n + d) / (2 * d)

-- z / d, rounded to the nearest whole number, halves away from zero
abbrev pub rounded : ℤ → ℕ → ℤ
rounded (pos n) d = pos (nearest n d)
rounded (negsuc n) d = neg_ℤ (pos (nearest (suc n) d))

-- r is nearest to n / d, and the greater of two: n / d lies from r - 1/2 up to, but not at, r + 1/2
pub record IsNearest (n d r : ℕ) : Type 0 where
  pub not_above : 2 * (d * r) ≤ 2 * n + d
  pub not_below : 2 * n + d < 2 * (d * (r + 1))
