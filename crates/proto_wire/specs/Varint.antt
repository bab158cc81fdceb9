-- Variable-length numbers: base-128 digits, the lowest first (Protocol Buffers, "Encoding", Base 128
-- Varints).
use Rattle.std.specs.Prelude.{ℕ, zero, suc, ◌+◌, ◌*◌, ◌%◌, ◌^◌, List, [], ◌∷◌, Result, Ok, Err, if◌then◌else◌, nat_lt}
use Rattle.proto_wire.specs.declared.wire.WireKind.{WireKind}
use Rattle.proto_wire.specs.declared.wire.WireKind.TheVariants.{Varint, Truncated}

-- a digit, and above it the digits of the number that was read after it
abbrev pub above_digit : ℕ → Result (ℕ × List ℕ) WireKind → Result (ℕ × List ℕ) WireKind
above_digit d (Ok (n, rest)) = Ok (d + 128 * n, rest)
above_digit d (Err kind) = Err kind

-- The number at the front, spelled in at most this many bytes, and the bytes after it. A byte below 128 is
-- the last one; of any other byte the low seven bits are a digit, and the number goes on.
abbrev pub number_of : ℕ → List ℕ → Result (ℕ × List ℕ) WireKind
number_of zero b = Err Varint
number_of (suc most) [] = Err Truncated
number_of (suc most) (c ∷ b) = if nat_lt c 128 then Ok (c, b) else above_digit (c % 128) (number_of most b)

-- a number past 64 bits is none
abbrev pub within_64_bits : Result (ℕ × List ℕ) WireKind → Result (ℕ × List ℕ) WireKind
within_64_bits (Ok (n, rest)) = if nat_lt n (2 ^ 64) then Ok (n, rest) else Err Varint
within_64_bits (Err kind) = Err kind

-- The varint at the front, of at most ten bytes and 64 bits, and the bytes after it. Spellings with more
-- bytes than are needed are fine.
unfoldable pub varint_at : List ℕ → Result (ℕ × List ℕ) WireKind
varint_at b = within_64_bits (number_of 10 b)
