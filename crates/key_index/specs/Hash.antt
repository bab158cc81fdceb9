-- The hash by which keys are distinguished.
use Rattle.std.specs.Prelude.{ℕ, ◌+◌, ◌-◌, ◌*◌, ◌/◌, ◌%◌, ◌^◌, List, [], ◌∷◌, length, take, drop, nat_le, if◌then◌else◌}

-- A hash of 64 bits with one byte more. Source: own; the factor is 2^64 divided by the golden ratio.
unfoldable pub mixed : ℕ → ℕ → ℕ
mixed hash byte = ((hash + byte) % 2 ^ 64 * 11400714819323198485) % 2 ^ 64

abbrev pub hash_from : ℕ → List ℕ → ℕ
hash_from hash [] = hash
hash_from hash (b ∷ bs) = hash_from (mixed hash b) bs

-- The upper 32 bits of a key's hash, for which the first and the last 32 bytes of a key of more than 64
-- count.
unfoldable pub hash_of : List ℕ → ℕ
hash_of key = if nat_le (length key) 64 then hash_from 0 key / 4294967296 else
    hash_from (hash_from 0 (take 32 key)) (drop (length key - 32) key) / 4294967296
