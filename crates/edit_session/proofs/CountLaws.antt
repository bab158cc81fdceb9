-- A count of cells that stops at a greatest number is within the limit where the cells are.
use Rattle.std.proofs.Common.{◌≡◌, ◌∙◌, ℕ, ◌-◌, ◌^◌, ◌<◌, min, Bool, true, false, refl, ap, arith}
use Rattle.std.specs.Prelude.{nat_le}
use Rattle.std.proofs.lemmas.Bool.{le-leb, leb-true, lt-leb, leb-false}
use Rattle.edit_session.specs.Opening.{within_limit}

limit_by : (count most limit : ℕ) → limit < most → (b : Bool) → nat_le count limit ≡ b → nat_le (min count most) limit ≡ b
limit_by count most limit room true is = le-leb (min count most) limit (omega (arith, leb-true count limit is))
limit_by count most limit room false is = lt-leb (min count most) limit (omega (arith, room, leb-false count limit is))

pub limit_at : (limit counted count : ℕ) → limit < 2 ^ 64 → counted ≡ min count (2 ^ 128 - 1) → nat_le counted limit ≡ within_limit limit count
limit_at limit counted count small is =
    ap (λ n. nat_le n limit) is ∙ limit_by count (2 ^ 128 - 1) limit (omega (arith, small)) (within_limit limit count) refl

pub exact_within : (limit cells count : ℕ) → limit < 2 ^ 64 → cells ≡ min count (2 ^ 128 - 1) → nat_le cells limit ≡ true → cells ≡ count
exact_within limit cells count small is within = omega (arith, small, is, leb-true cells limit within)
