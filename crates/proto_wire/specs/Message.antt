-- A message: a sequence of fields. Source: Protocol Buffers, "Encoding", Message Structure, which Vector Tile
-- 2.1 takes over.
use Rattle.std.specs.Prelude.{ℕ, ◌+◌, ◌-◌, ◌/◌, ◌%◌, ◌^◌, List, [], length, take, drop, Result, Ok, Err, if◌then◌else◌}
use Rattle.std.specs.Prelude.{nat_le, nat_eq}
use Rattle.std.specs.Int.{w32, w64, from_le_bytes}
use Rattle.proto_wire.specs.declared.wire.WireKind.{WireKind}
use Rattle.proto_wire.specs.declared.wire.WireKind.TheVariants as kind
use Rattle.proto_wire.specs.declared.field.WireType.{WireType}
use Rattle.proto_wire.specs.declared.field.WireType.TheVariants as wire
use Rattle.proto_wire.specs.Varint.{varint_at}

-- what a field holds
pub data Payload : Type 0 where
  varint : (number : ℕ) → Payload
  bits64 : (number : ℕ) → Payload
  bytes : (content : List ℕ) → Payload
  bits32 : (number : ℕ) → Payload

-- a field: its number, the offset of its tag, the offset of the first byte after it, and what it holds
pub record WireField : Type 0 where
  pub number : ℕ
  pub at : ℕ
  pub end : ℕ
  pub payload : Payload

-- the bytes that a field of wire type 2 holds; a number has no content
abbrev pub content_of : Payload → List ℕ
content_of (varint number) = []
content_of (bits64 number) = []
content_of (bytes content) = content
content_of (bits32 number) = []

-- the offset of the content's first byte, since a field ends with its content
abbrev pub content_start : WireField → ℕ
content_start field = field.end - length (content_of field.payload)

infixl 10 ◌then◌
-- what is read after a part, where that part has no fault
abbrev pub ◌then◌ : {A B : Type 0} → Result A WireKind → (A → Result B WireKind) → Result B WireKind
(Ok x) then next = next x
(Err e) then next = Err e

-- the first n bytes, and those after them
abbrev pub front_of : ℕ → List ℕ → Result (List ℕ × List ℕ) WireKind
front_of n b = if nat_le n (length b) then Ok (take n b, drop n b) else Err kind.Truncated

-- the wire types that have a meaning: 3 and 4 once held groups, 6 and 7 never held anything
abbrev pub wire_type_of : ℕ → Result WireType WireKind
wire_type_of code =
    if nat_eq code 0 then Ok wire.Varint
    else if nat_eq code 1 then Ok wire.Bits64
    else if nat_eq code 2 then Ok wire.Bytes
    else if nat_eq code 5 then Ok wire.Bits32
    else Err kind.WireType

-- The field number and the wire type of a tag, which are all its bits but the lowest three, and those. A tag
-- has 32 bits, and no field has the number 0.
abbrev pub tag_of : ℕ → Result (ℕ × WireType) WireKind
tag_of tag =
    if nat_le (2 ^ 32) tag then Err kind.Varint
    else if nat_eq (tag / 8) 0 then Err kind.WireType
    else (wire_type_of (tag % 8) then λ type. Ok (tag / 8, type))

-- the tag at the front, and the bytes after it
unfoldable pub tag_at : List ℕ → Result ((ℕ × WireType) × List ℕ) WireKind
tag_at b = varint_at b then λ read. tag_of read.0 then λ tag. Ok (tag, read.1)

-- what a field of this wire type holds, and the bytes after it; bytes have their count before them, a varint
unfoldable pub payload_at : WireType → List ℕ → Result (Payload × List ℕ) WireKind
payload_at wire.Varint b = varint_at b then λ read. Ok (varint read.0, read.1)
payload_at wire.Bits64 b = front_of 8 b then λ read. Ok (bits64 (from_le_bytes w64 read.0), read.1)
payload_at wire.Bytes b = varint_at b then λ count. front_of count.0 count.1 then λ read. Ok (bytes read.0, read.1)
payload_at wire.Bits32 b = front_of 4 b then λ read. Ok (bits32 (from_le_bytes w32 read.0), read.1)

-- the field at the front of bytes that are at this offset, and the bytes after it
unfoldable pub field_at : ℕ → List ℕ → Result (WireField × List ℕ) WireKind
field_at at b =
    tag_at b then λ tag. payload_at tag.0.1 tag.1 then λ held.
    Ok (record { number = tag.0.0; at = at; end = at + (length b - length held.1); payload = held.0 }, held.1)
