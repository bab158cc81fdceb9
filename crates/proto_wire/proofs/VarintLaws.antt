-- A varint is read exactly as its spelling says.
use Rattle.std.proofs.Common.{◌≡◌, ℕ, zero, suc, ◌+◌, ◌*◌, ◌%◌, ◌^◌, ◌<◌, ◌≤◌, ◌⊎◌, inl, inr, List, [], ◌∷◌, ◌++◌, refl, sym, ap, ◌∙◌, subst, arith, Bool, true, false, length}
use Rattle.std.specs.Prelude.{Ok, Err, nat_lt, if◌then◌else◌}
use Rattle.std.proofs.lemmas.Bool.{cases_lt}
use Rattle.std.proofs.lemmas.List.{length-append}
use Rattle.proto_wire.specs.declared.wire.WireKind.TheVariants.{Varint, Truncated, WireType}
use Rattle.proto_wire.specs.Varint.{above_digit, number_of, within_64_bits, varint_at}
use Rattle.proto_wire.specs.Laws.{AllGoOn, digits_value, BeginsWithNumber, BeginsTooLong, IsVarintRead, VarintsAreSpelled}
use Rattle.proto_wire.proofs.Numbers.{Read, below, not_below, fits, past, fails}

-- what reading at most so many digits means
abbrev pub IsNumberRead : ℕ → List ℕ → Read → Type 0
IsNumberRead most b (Ok (n, rest)) = BeginsWithNumber most b n rest
IsNumberRead most b (Err Varint) = BeginsTooLong most b
IsNumberRead most b (Err Truncated) = AllGoOn b × (length b < most)
IsNumberRead most b (Err WireType) = ⊥

-- one more digit before what is read
more_digit : (most c : ℕ) (b : List ℕ) (read : Read) → 128 ≤ c → IsNumberRead most b read → IsNumberRead (suc most) (c ∷ b) (above_digit (c % 128) read)
more_digit most c b (Ok (n, rest)) h (spelling, is, short, (front, last, spelled, on, low, value)) =
    (c ∷ spelling, ap (λ x. c ∷ x) is, omega arith, (c ∷ front, last, ap (λ x. c ∷ x) spelled, (h, on), low, ap (λ m. c % 128 + 128 * m) value))
more_digit most c b (Err Varint) h (front, rest, is, long, on) = (c ∷ front, rest, ap (λ x. c ∷ x) is, omega arith, (h, on))
more_digit most c b (Err Truncated) h (on, short) = ((h, on), omega arith)
more_digit most c b (Err WireType) h none = none

-- the last digit
last_digit : (most c : ℕ) (b : List ℕ) → c < 128 → IsNumberRead (suc most) (c ∷ b) (Ok (c, b))
last_digit most c b h = (c ∷ [], refl, omega arith, ([], c, refl, tt, h, (let small : c ≡ c % 128 + 128 * 0 = omega arith in small)))

abbrev byte_read : Bool → ℕ → List ℕ → Read → Read
byte_read t c b read = if t then Ok (c, b) else above_digit (c % 128) read

by_byte : (most c : ℕ) (b : List ℕ) → IsNumberRead most b (number_of most b) → (c < 128) ⊎ (128 ≤ c) → IsNumberRead (suc most) (c ∷ b) (number_of (suc most) (c ∷ b))
by_byte most c b reads (inl h) = rw (below c h) (last_digit most c b h)
by_byte most c b reads (inr h) = rw (not_below c h) (more_digit most c b (number_of most b) h reads)

pub number_is_read : (most : ℕ) (b : List ℕ) → IsNumberRead most b (number_of most b)
number_is_read zero b = ([], b, refl, refl, tt)
number_is_read (suc most) [] = (tt, omega arith)
number_is_read (suc most) (c ∷ b) = by_byte most c b (number_is_read most b) (cases_lt c 128)

-- a spelling is not empty
spelled_long : (spelling front : List ℕ) (last : ℕ) → spelling ≡ front ++ last ∷ [] → 1 ≤ length spelling
spelled_long spelling front last e = omega (arith, length-append front (last ∷ []), ap length e)

begun_long : (b front rest : List ℕ) → b ≡ front ++ rest → length front ≤ length b
begun_long b front rest e = omega (arith, length-append front rest, ap length e)

-- reading a byte that goes on
goes_on : (most c : ℕ) (b : List ℕ) (read : Read) → 128 ≤ c → number_of most b ≡ read → number_of (suc most) (c ∷ b) ≡ above_digit (c % 128) read
goes_on most c b read h e = rw (not_below c h) (ap (above_digit (c % 128)) e)

-- a number whose first byte is the last, or goes on
begins_last : (most c : ℕ) (b : List ℕ) (n last : ℕ) (rest : List ℕ) → c ∷ b ≡ last ∷ rest → last < 128 → n ≡ last % 128 + 128 * 0 → number_of (suc most) (c ∷ b) ≡ Ok (n, rest)
begins_last most c b n last rest e low value =
    let first : c ≡ last = cc in
    let others : b ≡ rest = cc in
    let number : c ≡ n = omega arith in
    rw (below c (omega arith)) (cc)

begins_number : (most c : ℕ) (b : List ℕ) (n : ℕ) (rest spelling front : List ℕ) (last : ℕ) → ((read : Read) → IsNumberRead most b read → number_of most b ≡ read) → c ∷ b ≡ spelling ++ rest → length spelling ≤ suc most → spelling ≡ front ++ last ∷ [] → AllGoOn front → last < 128 → n ≡ digits_value spelling → number_of (suc most) (c ∷ b) ≡ Ok (n, rest)
begins_number most c b n rest spelling [] last again is short spelled on low value =
    begins_last most c b n last rest (is ∙ ap (λ s. s ++ rest) spelled) low (value ∙ ap digits_value spelled)
begins_number most c b n rest spelling (d ∷ front) last again is short spelled (high, on) low value =
    let above : ℕ = digits_value (front ++ last ∷ []) in
    let whole : c ∷ b ≡ d ∷ ((front ++ last ∷ []) ++ rest) = is ∙ ap (λ s. s ++ rest) spelled in
    let first : c ≡ d = cc in
    let others : b ≡ (front ++ last ∷ []) ++ rest = cc in
    let fewer : length (front ++ last ∷ []) ≤ most = omega (arith, ap length spelled) in
    let number : n ≡ d % 128 + 128 * above = value ∙ ap digits_value spelled in
    let read = goes_on most c b (Ok (above, rest)) (omega arith) (again (Ok (above, rest)) (front ++ last ∷ [], others, fewer, (front, last, refl, on, low, refl))) in
    read ∙ ap (λ k. Ok (k, rest)) (ap (λ k. k % 128 + 128 * above) first ∙ sym number)

begins_too_long : (most c : ℕ) (b rest front : List ℕ) → ((read : Read) → IsNumberRead most b read → number_of most b ≡ read) → c ∷ b ≡ front ++ rest → length front ≡ suc most → AllGoOn front → number_of (suc most) (c ∷ b) ≡ Err Varint
begins_too_long most c b rest [] again is long on = absurd (omega arith)
begins_too_long most c b rest (d ∷ front) again is long (high, on) =
    let first : c ≡ d = cc in
    let others : b ≡ front ++ rest = cc in
    goes_on most c b (Err Varint) (omega arith) (again (Err Varint) (front, rest, others, omega arith, on))

pub number_is_only : (most : ℕ) (b : List ℕ) (read : Read) → IsNumberRead most b read → number_of most b ≡ read
number_is_only zero b (Ok (n, rest)) (spelling, is, short, (front, last, spelled, on, low, value)) = absurd (omega (arith, spelled_long spelling front last spelled))
number_is_only zero b (Err Varint) reads = refl
number_is_only zero b (Err Truncated) (on, short) = absurd (omega arith)
number_is_only zero b (Err WireType) none = absurd none
number_is_only (suc most) [] (Ok (n, rest)) (spelling, is, short, (front, last, spelled, on, low, value)) =
    absurd (omega (arith, spelled_long spelling front last spelled, begun_long [] spelling rest is))
number_is_only (suc most) [] (Err Varint) (front, rest, is, long, on) = absurd (omega (arith, begun_long [] front rest is))
number_is_only (suc most) [] (Err Truncated) reads = refl
number_is_only (suc most) [] (Err WireType) none = absurd none
number_is_only (suc most) (c ∷ b) (Ok (n, rest)) (spelling, is, short, (front, last, spelled, on, low, value)) =
    begins_number most c b n rest spelling front last (number_is_only most b) is short spelled on low value
number_is_only (suc most) (c ∷ b) (Err Varint) (front, rest, is, long, on) = begins_too_long most c b rest front (number_is_only most b) is long on
number_is_only (suc most) (c ∷ b) (Err Truncated) ((high, on), short) = goes_on most c b (Err Truncated) high (number_is_only most b (Err Truncated) (on, omega arith))
number_is_only (suc most) (c ∷ b) (Err WireType) none = absurd none

-- the bound of 64 bits, said of what was read
by_bound : (b : List ℕ) (n : ℕ) (rest : List ℕ) → BeginsWithNumber 10 b n rest → (n < 2 ^ 64) ⊎ (2 ^ 64 ≤ n) → IsVarintRead b (within_64_bits (Ok (n, rest)))
by_bound b n rest reads (inl h) = let t : nat_lt n 18446744073709551616 ≡ true = grind arith in rw t (reads, h)
by_bound b n rest reads (inr h) = let t : nat_lt n 18446744073709551616 ≡ false = grind arith in rw t (inr (n, rest, reads, h))

within : (b : List ℕ) (read : Read) → IsNumberRead 10 b read → IsVarintRead b (within_64_bits read)
within b (Ok (n, rest)) reads = by_bound b n rest reads (cases_lt n (2 ^ 64))
within b (Err Varint) reads = inl reads
within b (Err Truncated) reads = reads
within b (Err WireType) none = none

pub varint_is_read : (b : List ℕ) → IsVarintRead b (varint_at b)
unfolding varint_at
varint_is_read b = within b (number_of 10 b) (number_is_read 10 b)

pub varint_is_only : (b : List ℕ) (read : Read) → IsVarintRead b read → varint_at b ≡ read
varint_is_only b (Ok (n, rest)) (reads, h) = fits b n rest (number_is_only 10 b (Ok (n, rest)) reads) h
varint_is_only b (Err Varint) (inl reads) = fails b Varint (number_is_only 10 b (Err Varint) reads)
varint_is_only b (Err Varint) (inr (n, rest, reads, h)) = past b n rest (number_is_only 10 b (Ok (n, rest)) reads) h
varint_is_only b (Err Truncated) reads = fails b Truncated (number_is_only 10 b (Err Truncated) reads)
varint_is_only b (Err WireType) none = absurd none

pub varints_are_spelled : VarintsAreSpelled
varints_are_spelled b read = (λ e. subst (IsVarintRead b) e (varint_is_read b), varint_is_only b read)

-- a varint takes at least one byte from the front
pub varint_front : (b : List ℕ) (n : ℕ) (rest : List ℕ) → varint_at b ≡ Ok (n, rest) → (front : List ℕ) × (b ≡ front ++ rest) × (0 < length front)
varint_front b n rest e =
    let ((spelling, is, short, (front, last, spelled, on, low, value)), small) = subst (IsVarintRead b) e (varint_is_read b) in
    (spelling, is, spelled_long spelling front last spelled)
