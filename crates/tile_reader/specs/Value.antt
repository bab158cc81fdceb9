-- A value of a layer. Source: Vector Tile 2.1 §4.1 and the table of the message Value.
use Rattle.std.specs.Prelude.{ℕ, ◌+◌, ◌-◌, ◌/◌, ◌%◌, ◌^◌, ℤ, pos, neg_ℤ, ◌*ℤ◌, List, not, Option, Some, None, Result}
use Rattle.std.specs.Prelude.{Ok, if◌then◌else◌, nat_eq, nat_lt}
use Rattle.proto_wire.specs.Message.{WireField}
use Rattle.prop_values.specs.Data.{Data}
use Rattle.prop_values.specs.Data as held
use Rattle.tile_reader.specs.declared.fault.TileKind.TheVariants.{ValueKind, FloatValue}
use Rattle.tile_reader.specs.declared.fault.TileFault.{TileFault}
use Rattle.tile_reader.specs.declared.value.ValueMember.{ValueMember}
use Rattle.tile_reader.specs.declared.value.ValueMember.TheVariants.{String, Float, Double, Int, Uint, Sint, Flag}
use Rattle.tile_reader.specs.declared.value.ValueMember.TheVariants.{Unknown}
use Rattle.tile_reader.specs.Message.{message}
use Rattle.tile_reader.specs.Read.{refused, ◌then◌, read_fields, number_in, bytes_in, bits64_in, bits32_in, text_of}

-- the seven fields of a value by their numbers
abbrev pub value_member : ℕ → ValueMember
value_member number =
    if nat_eq number 1 then String
    else if nat_eq number 2 then Float
    else if nat_eq number 3 then Double
    else if nat_eq number 4 then Int
    else if nat_eq number 5 then Uint
    else if nat_eq number 6 then Sint
    else if nat_eq number 7 then Flag
    else Unknown

-- a whole number of units, in millionths
abbrev pub whole : ℤ → Data
whole z = held.number (z *ℤ pos 1000000)

-- an int is the two's complement of its number in 64 bits
abbrev pub from_int : ℕ → ℤ
from_int n = if nat_lt n (2 ^ 63) then pos n else neg_ℤ (pos (2 ^ 64 - n))

-- zigzag: 0, -1, 1, -2, 2 and so on (Protocol Buffers, "Encoding", Signed Integers)
abbrev pub from_zigzag : ℕ → ℤ
from_zigzag n = if nat_eq (n % 2) 0 then pos (n / 2) else neg_ℤ (pos (n / 2 + 1))

-- the value had no field before
abbrev pub first_field : ℕ → Option Data → Result (Unit {0}) TileFault
first_field at None = Ok tt
first_field at (Some value) = refused ValueKind at

-- a float or a double is where its wire type is right
abbrev pub float_at : ℕ → Result ℕ TileFault → Result (Option Data) TileFault
float_at at bits = bits then λ _. refused FloatValue at

-- What a field adds to a value: its wire type, then that there was no field before it, then that a text is
-- UTF-8.
abbrev pub value_field : ValueMember → Option Data → WireField → Result (Option Data) TileFault
value_field String before field =
    bytes_in field.at field.payload
    then λ b. first_field field.at before then λ _. text_of field.at b then λ s. Ok (Some (held.text s))
value_field Float before field = float_at field.at (bits32_in field.at field.payload)
value_field Double before field = float_at field.at (bits64_in field.at field.payload)
value_field Int before field =
    number_in field.at field.payload then λ n. first_field field.at before then λ _. Ok (Some (whole (from_int n)))
value_field Uint before field =
    number_in field.at field.payload then λ n. first_field field.at before then λ _. Ok (Some (whole (pos n)))
value_field Sint before field =
    number_in field.at field.payload then λ n. first_field field.at before then λ _. Ok (Some (whole (from_zigzag n)))
value_field Flag before field =
    number_in field.at field.payload
    then λ n. first_field field.at before then λ _. Ok (Some (held.boolean (not (nat_eq n 0))))
value_field Unknown before field = Ok before

-- at the end of a value that value is there; else the fault is at the value's tag
abbrev pub value_end : ℕ → Option Data → Result Data TileFault
value_end at None = refused ValueKind at
value_end at (Some value) = Ok value

-- the same by the field's number
abbrev pub value_step : Option Data → WireField → Result (Option Data) TileFault
value_step before field = value_field (value_member field.number) before field

-- the value whose tag is at `at` and whose content begins at `start`
abbrev pub value_at : ℕ → ℕ → List ℕ → Result Data TileFault
value_at at start content = read_fields value_step None (message start content) then value_end at
