-- How the parts of a tile are read: field after field, up to the first fault.
use Rattle.std.specs.Prelude.{ℕ, List, [], ◌∷◌, Option, Some, None, Result, Ok, Err, if◌then◌else◌}
use Rattle.std.specs.Str.{is_utf8}
use Rattle.proto_wire.specs.declared.field.WireFault.{WireFault}
use Rattle.proto_wire.specs.Message.{Payload, varint, bits64, bytes, bits32, WireField}
use Rattle.tile_reader.specs.declared.fault.TileKind.{TileKind}
use Rattle.tile_reader.specs.declared.fault.TileKind.TheVariants.{Wire, FieldType, Utf8}
use Rattle.tile_reader.specs.declared.fault.TileFault.{TileFault}
use Rattle.tile_reader.specs.Message.{Message}

-- the fault of this kind at this place
abbrev pub refused : {A : Type 0} → TileKind → ℕ → Result A TileFault
refused kind at = Err (record { kind = kind; at = at })

-- a fault of the bytes of a field keeps its place
abbrev pub broken : WireFault → TileFault
broken fault = record { kind = Wire fault.kind; at = fault.at }

infixl 10 ◌then◌
-- what is read after a part, where that part has no fault
abbrev pub ◌then◌ : {A B : Type 0} → Result A TileFault → (A → Result B TileFault) → Result B TileFault
(Ok x) then next = next x
(Err fault) then next = Err fault

-- what fields make of a state one after the other, each by this step, up to the first fault
abbrev pub along : {S : Type 0} → (S → WireField → Result S TileFault) → S → List WireField → Option WireFault →
    Result S TileFault
along step s [] None = Ok s
along step s [] (Some fault) = Err (broken fault)
along step s (field ∷ fields) fault = step s field then λ next. along step next fields fault

-- the same for the fields of a message
abbrev pub read_fields : {S : Type 0} → (S → WireField → Result S TileFault) → S → Message → Result S TileFault
read_fields step s message = along step s message.fields message.fault

-- the number of a field of wire type 0, at the tag of that field
abbrev pub number_in : ℕ → Payload → Result ℕ TileFault
number_in at (varint n) = Ok n
number_in at (bits64 n) = refused FieldType at
number_in at (bytes b) = refused FieldType at
number_in at (bits32 n) = refused FieldType at

-- the content of a field of wire type 2
abbrev pub bytes_in : ℕ → Payload → Result (List ℕ) TileFault
bytes_in at (varint n) = refused FieldType at
bytes_in at (bits64 n) = refused FieldType at
bytes_in at (bytes b) = Ok b
bytes_in at (bits32 n) = refused FieldType at

-- the bits of a field of wire type 1
abbrev pub bits64_in : ℕ → Payload → Result ℕ TileFault
bits64_in at (varint n) = refused FieldType at
bits64_in at (bits64 n) = Ok n
bits64_in at (bytes b) = refused FieldType at
bits64_in at (bits32 n) = refused FieldType at

-- the bits of a field of wire type 5
abbrev pub bits32_in : ℕ → Payload → Result ℕ TileFault
bits32_in at (varint n) = refused FieldType at
bits32_in at (bits64 n) = refused FieldType at
bits32_in at (bytes b) = refused FieldType at
bits32_in at (bits32 n) = Ok n

-- bytes that have to be a text. Source: Vector Tile 2.1 §4: texts are UTF-8.
abbrev pub text_of : ℕ → List ℕ → Result (List ℕ) TileFault
text_of at b = if is_utf8 b then Ok b else refused Utf8 at

-- the text of a field of wire type 2
abbrev pub text_in : ℕ → Payload → Result (List ℕ) TileFault
text_in at payload = bytes_in at payload then text_of at
