-- Powers of ten of a decimal: the point moved by an exponent.
use Rattle.std.proofs.Common.{◌≡◌, ℕ, ◌+◌, ◌-◌, ◌*◌, ◌^◌, ◌<◌, ◌≤◌, refl, sym, ap, ◌∙◌, arith, true, false, inl, inr}
use Rattle.std.proofs.lemmas.Bool.{cases_lt}
use Rattle.std.proofs.lemmas.Nat.{pow-add}
use Rattle.std.proofs.Math.Nat.{mul-le-mul_left}
use Rattle.fixed_num.specs.Rounding.{nearest}
use Rattle.fixed_num.specs.Decimal.{scaled}
use Rattle.fixed_num.specs.Saturation.{past, saturated}
use Rattle.fixed_num.proofs.Decimals.{ten_pow, nearest_is, nearest-cancel, nearest-all, saturated-far}

-- both far to the right of the point
saturated_far_both : (m n a b : ℕ) → n + 27 ≤ a → n + 27 ≤ b → saturated (nearest (m * 10 ^ a) (10 ^ n)) ≡ saturated (nearest (m * 10 ^ b) (10 ^ n))
saturated_far_both m n a b far further = far_one a far ∙ sym (far_one b further)
  where
    far_one : (c : ℕ) → n + 27 ≤ c → saturated (nearest (m * 10 ^ c) (10 ^ n)) ≡ saturated (m * past)
    far_one c h =
        let p : 10 ^ (c - n) ≡ past * 10 ^ (c - n - 27) = ap (λ k. 10 ^ k) (omega arith) ∙ pow-add 10 27 (c - n - 27) in
        rw (nearest-all m n c (omega arith), p) (saturated-far m (c - n - 27))

-- the point moved to the right
nearest-right : (m w k e : ℕ) → nearest (m * 10 ^ (w + 6 + e)) (10 ^ (w + k)) ≡ nearest (m * 10 ^ (e + 6)) (10 ^ k)
nearest-right m w k e =
    let top : m * 10 ^ (w + 6 + e) ≡ (m * 10 ^ (e + 6)) * 10 ^ w = ap (λ n. m * n) (ap (λ n. 10 ^ n) (omega arith) ∙ pow-add 10 (e + 6) w) ∙ omega arith in
    let low : 10 ^ (w + k) ≡ 10 ^ k * 10 ^ w = pow-add 10 w k ∙ omega arith in
    rw (top, low) (nearest-cancel (m * 10 ^ (e + 6)) (10 ^ k) (10 ^ w) (ten_pow w))

pub scaled-right : (m w k e size : ℕ) → w + k + 27 ≤ past → size ≡ saturated e → saturated (nearest (m * 10 ^ (w + 6 + size)) (10 ^ (w + k))) ≡ saturated (scaled m k false e)
scaled-right m w k e size small h = elim (cases_lt past e) [
  | inl far ↦ saturated_far_both m (w + k) (w + 6 + size) (w + 6 + e) (omega arith) (omega arith) ∙ ap saturated (nearest-right m w k e)
  | inr near ↦ let same : size ≡ e = omega arith in rw same (ap saturated (nearest-right m w k e))
]

-- the point moved to the left
nearest-left : (m w k e : ℕ) → e ≤ w + 6 → nearest (m * 10 ^ (w + 6 - e)) (10 ^ (w + k)) ≡ nearest (m * 10 ^ 6) (10 ^ (k + e))
nearest-left m w k e h =
    let joined : 10 ^ (w + 6 - e) * 10 ^ e ≡ 10 ^ 6 * 10 ^ w = sym (pow-add 10 (w + 6 - e) e) ∙ ap (λ n. 10 ^ n) (omega arith) ∙ pow-add 10 6 w in
    let grouped : (m * 10 ^ (w + 6 - e)) * 10 ^ e ≡ m * (10 ^ (w + 6 - e) * 10 ^ e) = omega arith in
    let top : (m * 10 ^ (w + 6 - e)) * 10 ^ e ≡ (m * 10 ^ 6) * 10 ^ w = grouped ∙ ap (λ n. m * n) joined ∙ omega arith in
    let low : 10 ^ (w + k) * 10 ^ e ≡ 10 ^ (k + e) * 10 ^ w = sym (pow-add 10 (w + k) e) ∙ ap (λ n. 10 ^ n) (omega arith) ∙ pow-add 10 (k + e) w in
    sym (nearest-cancel (m * 10 ^ (w + 6 - e)) (10 ^ (w + k)) (10 ^ e) (ten_pow e)) ∙ rw (top, low) (nearest-cancel (m * 10 ^ 6) (10 ^ (k + e)) (10 ^ w) (ten_pow w))

pub scaled-left : (m w k e size : ℕ) → w + 6 < past → size ≡ saturated e → size ≤ w + 6 → saturated (nearest (m * 10 ^ (w + 6 - size)) (10 ^ (w + k))) ≡ saturated (scaled m k true e)
scaled-left m w k e size small h near = let same : size ≡ e = omega arith in rw same (ap saturated (nearest-left m w k e (omega arith)))

-- the point moved past all digits and one place more
pub scaled-nothing : (m w k e size : ℕ) → m < 10 ^ (w + k) → size ≡ saturated e → w + 6 < size → saturated (scaled m k true e) ≡ 0
scaled-nothing m w k e size below h far =
    let p : 10 ^ (k + e) ≡ 10 ^ (w + k) * 10 ^ (7 + (e - w - 7)) = ap (λ n. 10 ^ n) (omega arith) ∙ pow-add 10 (w + k) (7 + (e - w - 7)) in
    let q : 10 ^ (7 + (e - w - 7)) ≡ 10 ^ 7 * 10 ^ (e - w - 7) = pow-add 10 7 (e - w - 7) in
    let r : 10 ^ 7 * 1 ≤ 10 ^ 7 * 10 ^ (e - w - 7) = mul-le-mul_left (10 ^ 7) (ten_pow (e - w - 7)) in
    let s : 10 ^ (w + k) * 10 ^ 7 ≤ 10 ^ (w + k) * 10 ^ (7 + (e - w - 7)) = mul-le-mul_left (10 ^ (w + k)) (omega arith) in
    rw (nearest_is (m * 10 ^ 6) (10 ^ (k + e)) 0 (ten_pow (k + e)) (omega arith) (omega arith)) refl
