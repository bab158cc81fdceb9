-- What a tile is in the words of its format: said of the lists of fields, and not of the order in which a
-- reader meets them. This is the text to believe; `tile_of` is the function that it determines.
-- Source: Vector Tile 2.1 §4, Protocol Buffers "Encoding".
use Rattle.std.specs.Prelude.{◌≡◌, ◌≢◌, ℕ, pos, ◌⊎◌, not, List, [], ◌∷◌, ◌++◌, map, Bool, true, false, Option, Some}
use Rattle.std.specs.Prelude.{None, Ok, if◌then◌else◌, nat_eq, slice_get}
use Rattle.std.specs.Str.{is_utf8, bytes_eq}
use Rattle.proto_wire.specs.Varint.{varint_at}
use Rattle.proto_wire.specs.Message.{varint, bytes, WireField, content_start}
use Rattle.proto_wire.specs.Reading.{AreFields}
use Rattle.prop_values.specs.Data.{Data}
use Rattle.prop_values.specs.Data as held
use Rattle.tile_reader.specs.declared.tile.Shape as shape
use Rattle.tile_reader.specs.declared.tile.Shape.TheVariants as shapes
use Rattle.tile_reader.specs.declared.tile.Feature.{Feature}
use Rattle.tile_reader.specs.declared.tile.TileLayer.{TileLayer}
use Rattle.tile_reader.specs.declared.value.ValueMember.{ValueMember}
use Rattle.tile_reader.specs.declared.value.ValueMember.TheVariants.{String, Float, Double, Int, Uint, Sint, Flag}
use Rattle.tile_reader.specs.declared.value.ValueMember.TheVariants.{Unknown}
use Rattle.tile_reader.specs.Value.{whole, from_int, from_zigzag, value_member}
use Rattle.tile_reader.specs.Tile.{is_compressed}

-- the fields of this number, in order
abbrev pub fields_of_number : ℕ → List WireField → List WireField
fields_of_number number [] = []
fields_of_number number (field ∷ fields) =
    if nat_eq field.number number then field ∷ fields_of_number number fields else fields_of_number number fields

-- the things one by one are the others
abbrev pub OneByOne : {A B : Type 0} → (A → B → Type 0) → List A → List B → Type 0
OneByOne Is [] [] = Unit {0}
OneByOne Is [] (b ∷ bs) = ⊥
OneByOne Is (a ∷ xs) [] = ⊥
OneByOne Is (a ∷ xs) (b ∷ bs) = Is a b × OneByOne Is xs bs

-- each of them is so
abbrev pub Each : {A : Type 0} → (A → Type 0) → List A → Type 0
Each Is [] = Unit {0}
Each Is (a ∷ xs) = Is a × Each Is xs

-- the fields of this number hold these things, in order
abbrev pub Hold : {A : Type 0} → ℕ → (WireField → A → Type 0) → List WireField → List A → Type 0
Hold number Is fields things = OneByOne Is (fields_of_number number fields) things

-- the last of these, or another where there is none
abbrev pub last_else : {A : Type 0} → A → List A → A
last_else other [] = other
last_else other (x ∷ xs) = last_else x xs

-- the last of these, if there is one
abbrev pub last_of : {A : Type 0} → List A → Option A
last_of xs = last_else None (map Some xs)

-- lists one after the other
abbrev pub concatenation : {A : Type 0} → List (List A) → List A
concatenation [] = []
concatenation (xs ∷ others) = xs ++ concatenation others

-- the field is a varint, bytes, or a text in UTF-8
abbrev pub IsNumber : WireField → ℕ → Type 0
IsNumber field number = field.payload ≡ varint number

abbrev pub IsBytes : WireField → List ℕ → Type 0
IsBytes field content = field.payload ≡ bytes content

abbrev pub IsText : WireField → List ℕ → Type 0
IsText field text = IsBytes field text × (is_utf8 text ≡ true)

-- the field holds a message, which has these fields and nothing else
abbrev pub HoldsMessage : WireField → List WireField → Type 0
HoldsMessage field fields =
    (content : List ℕ) × IsBytes field content × AreFields (content_start field) content fields None

-- The field says that a value is this, by the table of its fields: 1 string, 4 int, 5 uint, 6 sint, 7 bool.
-- Fields 2 and 3, a float and a double, say nothing that a tile may hold.
abbrev pub Says : ValueMember → WireField → Data → Type 0
Says String field value = (text : List ℕ) × IsText field text × (value ≡ held.text text)
Says Float field value = ⊥
Says Double field value = ⊥
Says Int field value = (n : ℕ) × IsNumber field n × (value ≡ whole (from_int n))
Says Uint field value = (n : ℕ) × IsNumber field n × (value ≡ whole (pos n))
Says Sint field value = (n : ℕ) × IsNumber field n × (value ≡ whole (from_zigzag n))
Says Flag field value = (n : ℕ) × IsNumber field n × (value ≡ held.boolean (not (nat_eq n 0)))
Says Unknown field value = ⊥

abbrev pub is_known : ValueMember → Bool
is_known Unknown = false
is_known member = true

-- the fields of a value that are not skipped
abbrev pub known_fields : List WireField → List WireField
known_fields [] = []
known_fields (field ∷ fields) =
    if is_known (value_member field.number) then field ∷ known_fields fields else known_fields fields

-- The field is this value of a layer: a message with exactly one of the seven fields.
abbrev pub IsValue : WireField → Data → Type 0
IsValue field value =
    (fields : List WireField) × HoldsMessage field fields
    × (only : WireField) × (known_fields fields ≡ only ∷ []) × Says (value_member only.number) only value

-- the bytes are these varints one after the other
abbrev pub ArePacked : List ℕ → List ℕ → Type 0
ArePacked b [] = b ≡ []
ArePacked b (n ∷ ns) = (rest : List ℕ) × (varint_at b ≡ Ok (n, rest)) × ArePacked rest ns

-- the field holds these tags: a single one, or packed ones
abbrev pub AreTags : WireField → List ℕ → Type 0
AreTags field tags =
    ((tag : ℕ) × IsNumber field tag × (tags ≡ tag ∷ []))
    ⊎ ((content : List ℕ) × IsBytes field content × ArePacked content tags)

-- the number of a type of geometry. Source: Vector Tile 2.1 §4.3.4.1.
abbrev pub shape_number : shape.Shape → ℕ
shape_number shapes.Unknown = 0
shape_number shapes.Point = 1
shape_number shapes.LineString = 2
shape_number shapes.Polygon = 3

abbrev pub IsShape : WireField → shape.Shape → Type 0
IsShape field kind = IsNumber field (shape_number kind)

-- geometry is a single number or packed ones, and is not looked into
abbrev pub IsGeometry : WireField → Type 0
IsGeometry field = ((n : ℕ) × IsNumber field n) ⊎ ((content : List ℕ) × IsBytes field content)

-- The fields are those of a feature: its id is the last field 1, its tags are those of the fields 2 in order,
-- its type is the last field 3, and fields 4 are geometry.
pub record AreFeatureFields (fields : List WireField) (id : Option ℕ) (kind : shape.Shape)
    (tags : List ℕ) : Type 0 where
  pub id_fields : (ids : List ℕ) × Hold 1 IsNumber fields ids × (id ≡ last_of ids)
  pub tag_fields : (parts : List (List ℕ)) × Hold 2 AreTags fields parts × (tags ≡ concatenation parts)
  pub kind_fields : (kinds : List shape.Shape) × Hold 3 IsShape fields kinds × (kind ≡ last_else shapes.Unknown kinds)
  pub geometry : Each IsGeometry (fields_of_number 4 fields)

-- The tags are these pairs: each two are the index of a key and the index of a value.
abbrev pub ArePairs : List (List ℕ) → List Data → List ℕ → List (List ℕ × Data) → Type 0
ArePairs keys values [] [] = Unit {0}
ArePairs keys values (key ∷ value ∷ tags) (pair ∷ pairs) =
    (slice_get keys key ≡ Some pair.0) × (slice_get values value ≡ Some pair.1) × ArePairs keys values tags pairs
ArePairs keys values tags pairs = ⊥

-- the value of the last of these pairs with this key, or another where there is none
abbrev pub last_value : List ℕ → Data → List (List ℕ × Data) → Data
last_value key other [] = other
last_value key other (pair ∷ pairs) =
    if bytes_eq pair.0 key then last_value key pair.1 pairs else last_value key other pairs

-- the pairs of other keys
abbrev pub without_key : List ℕ → List (List ℕ × Data) → List (List ℕ × Data)
without_key key [] = []
without_key key (pair ∷ pairs) = if bytes_eq pair.0 key then without_key key pairs else pair ∷ without_key key pairs

-- The properties of pairs: each key at its first place, with its last value.
abbrev pub AreProperties : List (List ℕ × Data) → List (List ℕ × Data) → Type 0
AreProperties [] [] = Unit {0}
AreProperties (pair ∷ pairs) (property ∷ others) =
    (property ≡ (pair.0, last_value pair.0 pair.1 pairs)) × AreProperties (without_key pair.0 pairs) others
AreProperties pairs properties = ⊥

-- The field is this feature of a layer with these keys and values.
abbrev pub IsFeature : List (List ℕ) → List Data → WireField → Feature → Type 0
IsFeature keys values field feature =
    (fields : List WireField) × HoldsMessage field fields
    × (tags : List ℕ) × AreFeatureFields fields feature.id feature.shape tags
    × (pairs : List (List ℕ × Data)) × ArePairs keys values tags pairs
    × AreProperties pairs feature.properties

-- The fields are those of this layer: its name is the last field 1, its features are the fields 2 in order,
-- with the keys of the fields 3 and the values of the fields 4; fields 5 are extents, and the last field 15
-- is its version, 1 or 2.
pub record AreLayerFields (fields : List WireField) (layer : TileLayer) : Type 0 where
  pub names : (names : List (List ℕ)) × Hold 1 IsText fields names × (last_of names ≡ Some layer.name)
  pub features :
      (keys : List (List ℕ)) × Hold 3 IsText fields keys
      × (values : List Data) × Hold 4 IsValue fields values
      × Hold 2 (IsFeature keys values) fields layer.features
  pub extents : (extents : List ℕ) × Hold 5 IsNumber fields extents
  pub versions : (versions : List ℕ) × Hold 15 IsNumber fields versions
      × ((last_of versions ≡ Some 1) ⊎ (last_of versions ≡ Some 2))

-- the field is this layer
abbrev pub IsLayer : WireField → TileLayer → Type 0
IsLayer field layer = (fields : List WireField) × HoldsMessage field fields × AreLayerFields fields layer

-- no layer has the name of an earlier one
abbrev pub HaveNewNames : List (List ℕ) → List TileLayer → Type 0
HaveNewNames earlier [] = Unit {0}
HaveNewNames earlier (layer ∷ layers) =
    Each (λ name. name ≢ layer.name) earlier × HaveNewNames (earlier ++ layer.name ∷ []) layers

-- The bytes are the tile of these layers: they are not compressed, they are a message, and its fields 3 are
-- the layers.
pub record IsTile (b : List ℕ) (layers : List TileLayer) : Type 0 where
  pub not_compressed : is_compressed b ≡ false
  pub fields : List WireField
  pub message : AreFields 0 b fields None
  pub layer_fields : Hold 3 IsLayer fields layers
  pub names : HaveNewNames [] layers
