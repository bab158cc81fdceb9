-- The first fault of bytes that are no tile, in the words of the format: what is before it is fine, and it is
-- the fault of what comes next. The reading order is that of the bytes; what a layer lacks is at its end,
-- then the tags of its features. Source: own.
use Rattle.std.specs.Prelude.{◌≡◌, ◌≢◌, ℕ, ◌%◌, ◌≤◌, ◌⊎◌, List, [], ◌∷◌, ◌++◌, length, true, false, Option, Some, None}
use Rattle.std.specs.Prelude.{Ok, Err}
use Rattle.std.specs.Str.{is_utf8}
use Rattle.proto_wire.specs.declared.wire.WireKind.{WireKind}
use Rattle.proto_wire.specs.declared.field.WireFault.{WireFault}
use Rattle.proto_wire.specs.Varint.{varint_at}
use Rattle.proto_wire.specs.Message.{varint, bits64, bytes, bits32, WireField, content_start}
use Rattle.proto_wire.specs.Reading.{AreFields}
use Rattle.prop_values.specs.Data.{Data}
use Rattle.tile_reader.specs.declared.fault.TileKind.{TileKind}
use Rattle.tile_reader.specs.declared.fault.TileKind.TheVariants as kind
use Rattle.tile_reader.specs.declared.fault.TileFault.{TileFault}
use Rattle.tile_reader.specs.declared.tile.Shape as shape
use Rattle.tile_reader.specs.declared.tile.TileLayer.{TileLayer}
use Rattle.tile_reader.specs.declared.value.ValueMember.{ValueMember}
use Rattle.tile_reader.specs.declared.value.ValueMember.TheVariants as member
use Rattle.tile_reader.specs.Read.{broken}
use Rattle.tile_reader.specs.Value.{value_member}
use Rattle.tile_reader.specs.Feature.{Tagged}
use Rattle.tile_reader.specs.Names.{names}
use Rattle.tile_reader.specs.Tile.{is_compressed}
use Rattle.tile_reader.specs.Format.{Each, Hold, last_of, IsNumber, IsBytes, IsText, HoldsMessage, Says, known_fields}
use Rattle.tile_reader.specs.Format.{IsValue, AreFeatureFields, ArePairs, IsLayer, HaveNewNames}

-- a fault of this kind at this place
abbrev pub IsAt : TileKind → ℕ → TileFault → Type 0
IsAt kind at fault = fault ≡ record { kind = kind; at = at }

-- The first fault of a message: the fields before it hold what they should, and next is a field with that
-- fault, or bytes that are no field.
abbrev pub FirstIn : {X : Type 0} → (List WireField → X → Type 0) → (X → WireField → TileFault → Type 0) → ℕ → List ℕ →
    TileFault → Type 0
FirstIn {X} Held Breaks at b fault =
    (before : List WireField) × (so_far : X) × Held before so_far
    × (((wire : WireFault) × AreFields at b before (Some wire) × (fault ≡ broken wire))
    ⊎ ((field : WireField) × (after : List WireField) × (end : Option WireFault)
    × AreFields at b (before ++ field ∷ after) end × Breaks so_far field fault))

-- the field is no varint, no bytes
abbrev pub NoNumber : WireField → Type 0
NoNumber field = (n : ℕ) → field.payload ≢ varint n

abbrev pub NoBytes : WireField → Type 0
NoBytes field = (content : List ℕ) → field.payload ≢ bytes content

-- the fault of a field that is to be a number, or a text
abbrev pub BreaksNumber : WireField → TileFault → Type 0
BreaksNumber field fault = NoNumber field × IsAt kind.FieldType field.at fault

abbrev pub BreaksText : WireField → TileFault → Type 0
BreaksText field fault =
    (NoBytes field × IsAt kind.FieldType field.at fault)
    ⊎ ((text : List ℕ) × IsBytes field text × (is_utf8 text ≡ false) × IsAt kind.Utf8 field.at fault)

-- What the fields of a value say so far: nothing, or one thing.
abbrev pub HaveSaid : List WireField → Option Data → Type 0
HaveSaid fields None = known_fields fields ≡ []
HaveSaid fields (Some value) =
    (only : WireField) × (known_fields fields ≡ only ∷ []) × Says (value_member only.number) only value

-- a second field of a value
abbrev pub IsSecond : Option Data → WireField → TileFault → Type 0
IsSecond before field fault = ((value : Data) × (before ≡ Some value)) × IsAt kind.ValueKind field.at fault

-- the fault of a field of a value: its wire type, then a float, or that it is the second, or that a text is
-- no UTF-8
abbrev pub BreaksSaying : ValueMember → Option Data → WireField → TileFault → Type 0
BreaksSaying member.String before field fault =
    (NoBytes field × IsAt kind.FieldType field.at fault)
    ⊎ ((text : List ℕ) × IsBytes field text
    × (IsSecond before field fault ⊎ ((before ≡ None) × (is_utf8 text ≡ false) × IsAt kind.Utf8 field.at fault)))
BreaksSaying member.Float before field fault =
    (((n : ℕ) → field.payload ≢ bits32 n) × IsAt kind.FieldType field.at fault)
    ⊎ ((n : ℕ) × (field.payload ≡ bits32 n) × IsAt kind.FloatValue field.at fault)
BreaksSaying member.Double before field fault =
    (((n : ℕ) → field.payload ≢ bits64 n) × IsAt kind.FieldType field.at fault)
    ⊎ ((n : ℕ) × (field.payload ≡ bits64 n) × IsAt kind.FloatValue field.at fault)
BreaksSaying member.Unknown before field fault = ⊥
BreaksSaying other before field fault =
    BreaksNumber field fault ⊎ ((n : ℕ) × IsNumber field n × IsSecond before field fault)

-- the first fault of a field that is to be a value
abbrev pub BreaksValue : WireField → TileFault → Type 0
BreaksValue field fault =
    (NoBytes field × IsAt kind.FieldType field.at fault)
    ⊎ ((content : List ℕ) × IsBytes field content
    × FirstIn HaveSaid (λ said inner. BreaksSaying (value_member inner.number) said inner) (content_start field)
    content fault)
    ⊎ ((fields : List WireField) × HoldsMessage field fields × (known_fields fields ≡ [])
    × IsAt kind.ValueKind field.at fault)

-- the bytes begin with these varints, and what comes next is broken: there is more, and it begins with no
-- varint
abbrev pub BreaksPacked : List ℕ → List ℕ → WireKind → Type 0
BreaksPacked b [] kind = (b ≢ []) × (varint_at b ≡ Err kind)
BreaksPacked b (n ∷ ns) kind = (rest : List ℕ) × (varint_at b ≡ Ok (n, rest)) × BreaksPacked rest ns kind

-- the fault of a field of a feature
abbrev pub BreaksFeatureField : WireField → TileFault → Type 0
BreaksFeatureField field fault =
    ((field.number ≡ 1) × BreaksNumber field fault)
    ⊎ ((field.number ≡ 2) × ((NoNumber field × NoBytes field × IsAt kind.FieldType field.at fault)
    ⊎ ((content : List ℕ) × IsBytes field content × (ns : List ℕ) × (wire : WireKind) × BreaksPacked content ns wire
    × IsAt (kind.Wire wire) field.at fault)))
    ⊎ ((field.number ≡ 3)
    × (BreaksNumber field fault ⊎ ((n : ℕ) × IsNumber field n × (4 ≤ n) × IsAt kind.GeometryType field.at fault)))
    ⊎ ((field.number ≡ 4) × NoNumber field × NoBytes field × IsAt kind.FieldType field.at fault)

-- what the fields of a feature hold so far
pub record FeatureSoFar : Type 0 where
  pub id : Option ℕ
  pub kind : shape.Shape
  pub tags : List ℕ

abbrev pub AreSoFar : List WireField → FeatureSoFar → Type 0
AreSoFar fields so_far = AreFeatureFields fields so_far.id so_far.kind so_far.tags

-- the first fault of a field that is to be a feature, before its tags are looked up
abbrev pub BreaksFeature : WireField → TileFault → Type 0
BreaksFeature field fault =
    (NoBytes field × IsAt kind.FieldType field.at fault)
    ⊎ ((content : List ℕ) × IsBytes field content
    × FirstIn AreSoFar (λ _ inner. BreaksFeatureField inner) (content_start field) content fault)

-- a feature before its tags are looked up, with the place of its field
pub record IsTagged (field : WireField) (tagged : Tagged) : Type 0 where
  pub fields : List WireField
  pub message : HoldsMessage field fields
  pub are : AreFeatureFields fields tagged.id tagged.shape tagged.tags
  pub place : tagged.at ≡ field.at

-- what the fields of a layer hold so far
pub record LayerSoFar : Type 0 where
  pub names : List (List ℕ)
  pub features : List Tagged
  pub keys : List (List ℕ)
  pub values : List Data
  pub extents : List ℕ
  pub versions : List ℕ

pub record AreLayerSoFar (fields : List WireField) (so_far : LayerSoFar) : Type 0 where
  pub name_fields : Hold 1 IsText fields so_far.names
  pub feature_fields : Hold 2 IsTagged fields so_far.features
  pub key_fields : Hold 3 IsText fields so_far.keys
  pub value_fields : Hold 4 IsValue fields so_far.values
  pub extent_fields : Hold 5 IsNumber fields so_far.extents
  pub version_fields : Hold 15 IsNumber fields so_far.versions

-- the fault of a field of a layer
abbrev pub BreaksLayerField : WireField → TileFault → Type 0
BreaksLayerField field fault =
    ((field.number ≡ 1) × BreaksText field fault)
    ⊎ ((field.number ≡ 2) × BreaksFeature field fault)
    ⊎ ((field.number ≡ 3) × BreaksText field fault)
    ⊎ ((field.number ≡ 4) × BreaksValue field fault)
    ⊎ ((field.number ≡ 5) × BreaksNumber field fault)
    ⊎ ((field.number ≡ 15) × BreaksNumber field fault)

-- the fault of the tags of a feature: an odd number of them, or one without its key or value
abbrev pub BreaksTags : List (List ℕ) → List Data → Tagged → TileFault → Type 0
BreaksTags keys values tagged fault =
    ((length tagged.tags % 2 ≡ 1) × IsAt kind.OddTags tagged.at fault)
    ⊎ ((length tagged.tags % 2 ≢ 1) × ((pairs : List (List ℕ × Data)) → ArePairs keys values tagged.tags pairs → ⊥)
    × IsAt kind.TagIndex tagged.at fault)

-- the fault of the first feature whose tags have one
abbrev pub BreaksFeatures : List (List ℕ) → List Data → List Tagged → TileFault → Type 0
BreaksFeatures keys values [] fault = ⊥
BreaksFeatures keys values (tagged ∷ others) fault =
    BreaksTags keys values tagged fault
    ⊎ (((pairs : List (List ℕ × Data)) × ArePairs keys values tagged.tags pairs)
    × BreaksFeatures keys values others fault)

-- What a layer lacks at its end, after layers of these names: its name, its version, a new name, and then the
-- tags of a feature.
abbrev pub BreaksEnd : List (List ℕ) → LayerSoFar → ℕ → TileFault → Type 0
BreaksEnd earlier layer at fault =
    ((last_of layer.names ≡ None) × IsAt kind.NoName at fault)
    ⊎ ((name : List ℕ) × (last_of layer.names ≡ Some name)
    × (((last_of layer.versions ≡ None) × IsAt kind.NoVersion at fault)
    ⊎ ((n : ℕ) × (last_of layer.versions ≡ Some n) × (n ≢ 1) × (n ≢ 2) × IsAt kind.Version at fault)
    ⊎ (((last_of layer.versions ≡ Some 1) ⊎ (last_of layer.versions ≡ Some 2))
    × (((Each (λ other. other ≢ name) earlier → ⊥) × IsAt kind.RepeatedName at fault)
    ⊎ (Each (λ other. other ≢ name) earlier × BreaksFeatures layer.keys layer.values layer.features fault)))))

-- the first fault of a field that is to be a layer after layers of these names
abbrev pub BreaksLayer : List (List ℕ) → WireField → TileFault → Type 0
BreaksLayer earlier field fault =
    (NoBytes field × IsAt kind.FieldType field.at fault)
    ⊎ ((content : List ℕ) × IsBytes field content
    × FirstIn AreLayerSoFar (λ _ inner. BreaksLayerField inner) (content_start field) content fault)
    ⊎ ((fields : List WireField) × HoldsMessage field fields × (layer : LayerSoFar) × AreLayerSoFar fields layer
    × BreaksEnd earlier layer field.at fault)

-- the layers so far
abbrev pub AreLayersSoFar : List WireField → List TileLayer → Type 0
AreLayersSoFar fields layers = Hold 3 IsLayer fields layers × HaveNewNames [] layers

-- The first fault of bytes that are no tile.
abbrev pub IsFirstFault : List ℕ → TileFault → Type 0
IsFirstFault b fault =
    ((is_compressed b ≡ true) × IsAt kind.Compressed 0 fault)
    ⊎ ((is_compressed b ≡ false)
    × FirstIn AreLayersSoFar (λ layers field inner. (field.number ≡ 3) × BreaksLayer (names layers) field inner)
    0 b fault)
