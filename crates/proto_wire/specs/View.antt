-- What the definitions see of the values that a reader gives.
use Rattle.std.specs.Prelude.{◌≡◌, ℕ, length, Result, Ok, Err}
use Rattle.proto_wire.specs.declared.wire.WireKind.{WireKind}
use Rattle.proto_wire.specs.declared.field.Wire.{Wire}
use Rattle.proto_wire.specs.declared.field.Wire.TheVariants as code
use Rattle.proto_wire.specs.declared.field.Field.{Field}
use Rattle.proto_wire.specs.Message.{Payload, varint, bits64, bytes, bits32, WireField, content_of}

-- what a field holds
abbrev pub payload_seen : Wire → Payload
payload_seen (code.Varint n) = varint n
payload_seen (code.Bits64 n) = bits64 n
payload_seen (code.Bytes b) = bytes b.now
payload_seen (code.Bits32 n) = bits32 n

-- the field, where the first byte after it is at this offset
abbrev pub field_seen : Field → ℕ → WireField
field_seen field end = record { number = field.number; at = field.at; end = end; payload = payload_seen field.wire }

-- how many bytes of content a field has
abbrev pub content_length : Wire → ℕ
content_length wire = length (content_of (payload_seen wire))

-- what a reader returned, as the definitions see it, is what the bytes begin with
abbrev pub GivesWire : {X Y : Type 0} → (X → Y) → Result X WireKind → Result Y WireKind → Type 0
GivesWire seen (Ok x) read = read ≡ Ok (seen x)
GivesWire seen (Err kind) read = read ≡ Err kind
