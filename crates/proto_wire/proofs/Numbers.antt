-- What reading a number digit by digit gives.
use Rattle.std.proofs.Common.{◌≡◌, ℕ, suc, ◌+◌, ◌-◌, ◌*◌, ◌%◌, ◌^◌, ◌<◌, ◌≤◌, List, [], ◌∷◌, refl, sym, ap, ◌∙◌, subst, arith, true, false, length}
use Rattle.std.specs.Prelude.{Result, Ok, Err, nat_lt}
use Rattle.std.proofs.lemmas.Nat.{pow-add}
use Rattle.std.proofs.Math.Nat.{mul-le-mul_left, pow-le-pow_right}
use Rattle.std.specs.Borrow.{Bor}
use Rattle.proto_wire.specs.declared.wire.WireKind.{WireKind}
use Rattle.proto_wire.specs.declared.wire.WireKind.TheVariants.{Varint, Truncated}
use Rattle.proto_wire.specs.View.{GivesWire}
use Rattle.proto_wire.specs.Varint.{above_digit, number_of, within_64_bits, varint_at}
use Rattle.proto_wire.specs.Reading.{onto}

abbrev pub Read : Type 0
Read = Result (ℕ × List ℕ) WireKind

-- before the first digit
pub onto_none : (read : Read) → onto 0 1 read ≡ read
onto_none (Ok (n, rest)) = ap (λ m. Ok (m, rest)) (omega arith)
onto_none (Err kind) = refl

pub below : (c : ℕ) → c < 128 → nat_lt c 128 ≡ true
below c h = grind arith

pub not_below : (c : ℕ) → 128 ≤ c → nat_lt c 128 ≡ false
not_below c h = grind arith

-- the bytes end
pub read_end : (v w i : ℕ) (b : List ℕ) (all : Read) → i < 10 → length b ≡ 0 → onto v w (number_of (10 - i) b) ≡ all → all ≡ Err Truncated
read_end v w i [] all h z e = let k : 10 - i ≡ suc (9 - i) = omega arith in sym e ∙ ap (λ n. onto v w (number_of n [])) k
read_end v w i (c ∷ b) all h z e = absurd (omega arith)

-- the last byte
pub read_last : (v w i c : ℕ) (b : List ℕ) (all : Read) → i < 10 → c < 128 → onto v w (number_of (10 - i) (c ∷ b)) ≡ all → all ≡ Ok (v + w * c, b)
read_last v w i c b all h l e =
    let k : 10 - i ≡ suc (9 - i) = omega arith in
    sym e ∙ ap (λ n. onto v w (number_of n (c ∷ b))) k ∙ (rw (below c l) refl)

onto-above_digit : (v w d : ℕ) (r : Read) → onto v w (above_digit d r) ≡ onto (v + w * d) (w * 128) r
onto-above_digit v w d (Ok (n, b)) = ap (λ m. Ok (m, b)) (omega arith)
onto-above_digit v w d (Err k) = refl

-- a byte with others after it
pub read_more : (v w i c : ℕ) (b : List ℕ) (all : Read) → i < 10 → 128 ≤ c → onto v w (number_of (10 - i) (c ∷ b)) ≡ all → onto (v + w * (c % 128)) (w * 128) (number_of (10 - (i + 1)) b) ≡ all
read_more v w i c b all h l e =
    let k : 10 - i ≡ suc (10 - (i + 1)) = omega arith in
    let stepped : onto v w (number_of (suc (10 - (i + 1))) (c ∷ b)) ≡ onto v w (above_digit (c % 128) (number_of (10 - (i + 1)) b)) = rw (not_below c l) refl in
    sym (onto-above_digit v w (c % 128) (number_of (10 - (i + 1)) b)) ∙ sym stepped ∙ sym (ap (λ n. onto v w (number_of n (c ∷ b))) k) ∙ e

-- the weight of the next digit
pub next_weight : (w i : ℕ) → w ≡ 2 ^ (7 * i) → w * 128 ≡ 2 ^ (7 * (i + 1))
next_weight w i e = ap (λ x. x * 128) e ∙ sym (pow-add 2 (7 * i) 7) ∙ ap (λ k. 2 ^ k) (omega arith)

-- nine digits fit 63 bits
pub weight_within : (w i : ℕ) → w ≡ 2 ^ (7 * i) → i < 9 → w * 128 ≤ 2 ^ 63
weight_within w i e h =
    let p : 2 ^ (7 * i) ≤ 2 ^ 56 = pow-le-pow_right {n = 2} (omega arith) {i = 7 * i} {j = 56} (omega arith) in
    omega arith

-- the digits so far stay below the next weight
pub next_small : (v w d : ℕ) → v < w → d < 128 → v + w * d < w * 128
next_small v w d h k = omega (arith, mul-le-mul_left w (let l : d + 1 ≤ 128 = omega arith in l))

-- a number that fits 64 bits, or passes them
pub fits : (b : List ℕ) (n : ℕ) (rest : List ℕ) → number_of 10 b ≡ Ok (n, rest) → n < 2 ^ 64 → varint_at b ≡ Ok (n, rest)
unfolding varint_at
fits b n rest e h = ap within_64_bits e ∙ (let t : nat_lt n 18446744073709551616 ≡ true = grind arith in rw t refl)

pub past : (b : List ℕ) (n : ℕ) (rest : List ℕ) → number_of 10 b ≡ Ok (n, rest) → 2 ^ 64 ≤ n → varint_at b ≡ Err Varint
unfolding varint_at
past b n rest e h = ap within_64_bits e ∙ (let t : nat_lt n 18446744073709551616 ≡ false = grind arith in rw t refl)

-- a fault of the digits is one of the varint
pub fails : (b : List ℕ) (k : WireKind) → number_of 10 b ≡ Err k → varint_at b ≡ Err k
unfolding varint_at
fails b k e = ap within_64_bits e

-- what the tenth byte makes of nine digits is the varint
pub tenth : (b : List ℕ) (v w i : ℕ) (rest : List ℕ) (read : Result (ℕ × Bor (List ℕ)) WireKind) → i ≡ 9 → w ≡ 2 ^ (7 * i) → onto v w (number_of (10 - i) rest) ≡ number_of 10 b → GivesWire (λ r. (r.0, r.1.now)) read (within_64_bits (onto v (2 ^ 63) (number_of 1 rest))) → GivesWire (λ r. (r.0, r.1.now)) read (varint_at b)
unfolding varint_at
tenth b v w i rest read last weight e gives =
    let top : w ≡ 2 ^ 63 = weight ∙ ap (λ k. 2 ^ (7 * k)) last in
    let one : 10 - i ≡ 1 = omega arith in
    let same : within_64_bits (onto v (2 ^ 63) (number_of 1 rest)) ≡ within_64_bits (number_of 10 b) =
    ap within_64_bits (ap (λ x. onto v x (number_of 1 rest)) (sym top) ∙ ap (λ k. onto v w (number_of k rest)) (sym one) ∙ e) in
    subst (GivesWire {X = ℕ × Bor (List ℕ)} {Y = ℕ × List ℕ} (λ r. (r.0, r.1.now)) read) same gives

-- a number of one byte
pub one_byte : (c : ℕ) (b : List ℕ) → c < 128 → varint_at (c ∷ b) ≡ Ok (c, b)
one_byte c b h = fits (c ∷ b) c b (rw (below c h) refl) (omega arith)
