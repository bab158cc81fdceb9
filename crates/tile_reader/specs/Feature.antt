-- A feature of a layer. Source: Vector Tile 2.1 §4.2 and the table of the message Feature.
use Rattle.std.specs.Prelude.{ℕ, zero, suc, List, [], ◌∷◌, ◌++◌, length, Option, Some, None, Result, Ok, Err}
use Rattle.std.specs.Prelude.{if◌then◌else◌, nat_eq}
use Rattle.proto_wire.specs.declared.wire.WireKind.{WireKind}
use Rattle.proto_wire.specs.Varint.{varint_at}
use Rattle.proto_wire.specs.Message.{Payload, varint, bits64, bytes, bits32, WireField}
use Rattle.tile_reader.specs.declared.fault.TileKind.TheVariants.{Wire, FieldType, GeometryType}
use Rattle.tile_reader.specs.declared.fault.TileFault.{TileFault}
use Rattle.tile_reader.specs.declared.tile.Shape as shape
use Rattle.tile_reader.specs.declared.tile.Shape.TheVariants as shapes
use Rattle.tile_reader.specs.declared.feature.FeatureMember.{FeatureMember}
use Rattle.tile_reader.specs.declared.feature.FeatureMember.TheVariants.{Id, Tags, Shape, Geometry, Unknown}
use Rattle.tile_reader.specs.Message.{message}
use Rattle.tile_reader.specs.Read.{refused, ◌then◌, read_fields, number_in}

-- a feature as it is in its layer: the offset of its tag, and tags that are indices of the layer's keys and
-- values
pub record Tagged : Type 0 where
  pub at : ℕ
  pub id : Option ℕ
  pub shape : shape.Shape
  pub tags : List ℕ

-- the fields of a feature by their numbers
abbrev pub feature_member : ℕ → FeatureMember
feature_member number =
    if nat_eq number 1 then Id
    else if nat_eq number 2 then Tags
    else if nat_eq number 3 then Shape
    else if nat_eq number 4 then Geometry
    else Unknown

-- a number, and the numbers after it
abbrev pub number_after : ℕ → Result (List ℕ) WireKind → Result (List ℕ) WireKind
number_after n (Err kind) = Err kind
number_after n (Ok ns) = Ok (n ∷ ns)

-- the number at the front, and the numbers after it
abbrev pub number_before : Result (ℕ × List ℕ) WireKind → (List ℕ → Result (List ℕ) WireKind) → Result (List ℕ) WireKind
number_before (Err kind) others = Err kind
number_before (Ok (n, rest)) others = number_after n (others rest)

-- the varints of these bytes, at most so many
abbrev pub numbers_within : ℕ → List ℕ → Result (List ℕ) WireKind
numbers_within most [] = Ok []
numbers_within zero (c ∷ b) = Ok []
numbers_within (suc most) (c ∷ b) = number_before (varint_at (c ∷ b)) (numbers_within most)

-- The varints of these bytes one after the other, as in a packed field (Protocol Buffers, "Encoding",
-- Repeated Fields). A varint has a byte at least.
unfoldable pub packed : List ℕ → Result (List ℕ) WireKind
packed b = numbers_within (length b) b

-- a fault inside a packed field has the place of that field's tag
abbrev pub placed : ℕ → Result (List ℕ) WireKind → Result (List ℕ) TileFault
placed at (Ok ns) = Ok ns
placed at (Err kind) = refused (Wire kind) at

-- tags are packed or single
abbrev pub tags_in : ℕ → Payload → Result (List ℕ) TileFault
tags_in at (varint n) = Ok (n ∷ [])
tags_in at (bits64 n) = refused FieldType at
tags_in at (bytes b) = placed at (packed b)
tags_in at (bits32 n) = refused FieldType at

-- geometry is packed or single, and is not read
abbrev pub geometry_in : ℕ → Payload → Result (Unit {0}) TileFault
geometry_in at (varint n) = Ok tt
geometry_in at (bits64 n) = refused FieldType at
geometry_in at (bytes b) = Ok tt
geometry_in at (bits32 n) = refused FieldType at

-- the four types of a feature. Source: Vector Tile 2.1 §4.3.4.1.
abbrev pub shape_of : ℕ → ℕ → Result shape.Shape TileFault
shape_of at n =
    if nat_eq n 0 then Ok shapes.Unknown
    else if nat_eq n 1 then Ok shapes.Point
    else if nat_eq n 2 then Ok shapes.LineString
    else if nat_eq n 3 then Ok shapes.Polygon
    else refused GeometryType at

-- what a field adds to a feature; of an id and of a type the last holds
abbrev pub feature_field : FeatureMember → Tagged → WireField → Result Tagged TileFault
feature_field Id feature field = number_in field.at field.payload then λ n. Ok (record feature { id = Some n })
feature_field Tags feature field =
    tags_in field.at field.payload then λ ns. Ok (record feature { tags = feature.tags ++ ns })
feature_field Shape feature field =
    number_in field.at field.payload then λ n. shape_of field.at n then λ s. Ok (record feature { shape = s })
feature_field Geometry feature field = geometry_in field.at field.payload then λ _. Ok feature
feature_field Unknown feature field = Ok feature

-- the same by the field's number
abbrev pub feature_step : Tagged → WireField → Result Tagged TileFault
feature_step feature field = feature_field (feature_member field.number) feature field

-- a feature before its first field
abbrev pub untagged : ℕ → Tagged
untagged at = record { at = at; id = None; shape = shapes.Unknown; tags = [] }

-- the feature whose tag is at `at` and whose content begins at `start`
abbrev pub feature_at : ℕ → ℕ → List ℕ → Result Tagged TileFault
feature_at at start content = read_fields feature_step (untagged at) (message start content)
