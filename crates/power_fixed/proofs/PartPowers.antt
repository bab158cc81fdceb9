-- Where nothing is left of a fraction, its further digits are 0.
use Rattle.std.proofs.Common.{◌≡◌, ℕ, zero, suc, ◌+◌, ◌-◌, ◌≤◌, ℤ, refl, sym, ap, ◌∙◌, arith}
use Rattle.power_fixed.specs.Power.{rest_after, part_after}

rest_stays : (f k j : ℕ) → rest_after f k ≡ 0 → rest_after f (j + k) ≡ 0
unfolding rest_after
rest_stays f k zero h = let same : 0 + k ≡ k = omega arith in rw same h
rest_stays f k (suc j) h =
    let more : suc j + k ≡ suc (j + k) = omega arith in
    let rest = rest_stays f k j h in
    rw (more, rest) refl

part_stays : (b : ℤ) (f k j : ℕ) → rest_after f k ≡ 0 → part_after b f (j + k) ≡ part_after b f k
unfolding part_after
part_stays b f k zero h = let same : 0 + k ≡ k = omega arith in rw same refl
part_stays b f k (suc j) h =
    let more : suc j + k ≡ suc (j + k) = omega arith in
    let rest = rest_stays f k j h in
    rw (more, rest) (part_stays b f k j h)

pub part_ends : (b : ℤ) (f k last : ℕ) → k ≤ last → rest_after f k ≡ 0 → part_after b f k ≡ part_after b f last
part_ends b f k last within h =
    let all : last - k + k ≡ last = omega arith in
    sym (part_stays b f k (last - k) h) ∙ ap (part_after b f) all
