-- The laws that say what the definitions of this crate mean.
use Rattle.std.specs.Prelude.{◌≡◌, ℕ, ◌+◌, ◌*◌, ◌%◌, ◌^◌, ◌<◌, ◌≤◌, ◌⊎◌, ◌↔◌, List, [], ◌∷◌, ◌++◌, length, Option}
use Rattle.std.specs.Prelude.{Result, Ok, Err}
use Rattle.proto_wire.specs.declared.wire.WireKind.{WireKind}
use Rattle.proto_wire.specs.declared.wire.WireKind.TheVariants.{Varint, Truncated, WireType}
use Rattle.proto_wire.specs.declared.field.WireFault.{WireFault}
use Rattle.proto_wire.specs.Varint.{varint_at}
use Rattle.proto_wire.specs.Message.{WireField, content_of, content_start, field_at}
use Rattle.proto_wire.specs.Reading.{AreFields}

-- each of these bytes has the high bit
abbrev pub AllGoOn : List ℕ → Type 0
AllGoOn [] = Unit {0}
AllGoOn (c ∷ b) = (128 ≤ c) × AllGoOn b

-- the digits to the base 128, the lowest first, which are the low seven bits of the bytes
abbrev pub digits_value : List ℕ → ℕ
digits_value [] = 0
digits_value (c ∷ b) = c % 128 + 128 * digits_value b

-- the bytes spell this number: all but the last have the high bit
abbrev pub Spells : List ℕ → ℕ → Type 0
Spells b n = (front : List ℕ) × (last : ℕ) × (b ≡ front ++ last ∷ []) × AllGoOn front × (last < 128)
    × (n ≡ digits_value b)

-- the bytes begin with the spelling of this number, in at most `most` bytes
abbrev pub BeginsWithNumber : ℕ → List ℕ → ℕ → List ℕ → Type 0
BeginsWithNumber most b n rest =
    (spelling : List ℕ) × (b ≡ spelling ++ rest) × (length spelling ≤ most) × Spells spelling n

-- the bytes begin with so many that go on
abbrev pub BeginsTooLong : ℕ → List ℕ → Type 0
BeginsTooLong most b = (front : List ℕ) × (rest : List ℕ) × (b ≡ front ++ rest) × (length front ≡ most) × AllGoOn front

-- what reading a varint means, said by the spelling alone
abbrev pub IsVarintRead : List ℕ → Result (ℕ × List ℕ) WireKind → Type 0
IsVarintRead b (Ok (n, rest)) = BeginsWithNumber 10 b n rest × (n < 2 ^ 64)
IsVarintRead b (Err Varint) =
    BeginsTooLong 10 b ⊎ ((n : ℕ) × (rest : List ℕ) × BeginsWithNumber 10 b n rest × (2 ^ 64 ≤ n))
IsVarintRead b (Err Truncated) = AllGoOn b × (length b < 10)
IsVarintRead b (Err WireType) = ⊥

abbrev pub VarintsAreSpelled : Type 0
VarintsAreSpelled = (b : List ℕ) (read : Result (ℕ × List ℕ) WireKind) → (varint_at b ≡ read) ↔ IsVarintRead b read

-- The field is at the front of bytes at this offset: at least one byte of tag and payload, then the content,
-- which ends where the bytes after the field begin.
pub record Stands (at : ℕ) (b : List ℕ) (field : WireField) (rest : List ℕ) : Type 0 where
  pub head : List ℕ
  pub cut : b ≡ head ++ (content_of field.payload ++ rest)
  pub some : 0 < length head
  pub place : field.at ≡ at
  pub start : content_start field ≡ at + length head
  pub finish : field.end + length rest ≡ at + length b

abbrev pub FieldsStand : Type 0
FieldsStand = (at : ℕ) (b : List ℕ) (field : WireField) (rest : List ℕ) → field_at at b ≡ Ok (field, rest) →
    Stands at b field rest

-- all bytes have a list of fields
abbrev pub SomeFields : Type 0
SomeFields = (at : ℕ) (b : List ℕ) →
    (fields : List WireField) × (fault : Option WireFault) × AreFields at b fields fault

-- and no two
abbrev pub NoOtherFields : Type 0
NoOtherFields =
    (at : ℕ) (b : List ℕ) (fields others : List WireField) (fault other : Option WireFault) →
    AreFields at b fields fault →
    AreFields at b others other → (others ≡ fields) × (other ≡ fault)
