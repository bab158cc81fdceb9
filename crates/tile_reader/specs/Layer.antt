-- A layer of a tile. Source: Vector Tile 2.1 §4.1 and the table of the message Layer.
use Rattle.std.specs.Prelude.{ℕ, List, [], ◌∷◌, ◌++◌, Option, Some, None, Result, Ok, if◌then◌else◌, nat_eq}
use Rattle.std.specs.List.{list_any}
use Rattle.std.specs.Str.{bytes_eq}
use Rattle.proto_wire.specs.Message.{WireField, content_start}
use Rattle.prop_values.specs.Data.{Data}
use Rattle.tile_reader.specs.declared.fault.TileKind.TheVariants as kind
use Rattle.tile_reader.specs.declared.fault.TileFault.{TileFault}
use Rattle.tile_reader.specs.declared.tile.TileLayer.{TileLayer}
use Rattle.tile_reader.specs.declared.layer.LayerMember.{LayerMember}
use Rattle.tile_reader.specs.declared.layer.LayerMember.TheVariants.{Name, Feature, Key, Value, Extent, Version}
use Rattle.tile_reader.specs.declared.layer.LayerMember.TheVariants.{Unknown}
use Rattle.tile_reader.specs.Message.{message}
use Rattle.tile_reader.specs.Read.{refused, ◌then◌, read_fields, number_in, bytes_in, text_in}
use Rattle.tile_reader.specs.Value.{value_at}
use Rattle.tile_reader.specs.Feature.{Tagged, feature_at}
use Rattle.tile_reader.specs.Properties.{features_of}

-- what the fields of a layer hold
pub record LayerFields : Type 0 where
  pub name : Option (List ℕ)
  pub version : Option ℕ
  pub keys : List (List ℕ)
  pub values : List Data
  pub features : List Tagged

-- the fields of a layer by their numbers
abbrev pub layer_member : ℕ → LayerMember
layer_member number =
    if nat_eq number 1 then Name
    else if nat_eq number 2 then Feature
    else if nat_eq number 3 then Key
    else if nat_eq number 4 then Value
    else if nat_eq number 5 then Extent
    else if nat_eq number 15 then Version
    else Unknown

-- what a field adds to a layer; of a name and of a version the last holds, and the extent is not kept
abbrev pub layer_field : LayerMember → LayerFields → WireField → Result LayerFields TileFault
layer_field Name parts field = text_in field.at field.payload then λ s. Ok (record parts { name = Some s })
layer_field Feature parts field =
    bytes_in field.at field.payload
    then λ b. feature_at field.at (content_start field) b
    then λ feature. Ok (record parts { features = parts.features ++ feature ∷ [] })
layer_field Key parts field = text_in field.at field.payload then λ s. Ok (record parts { keys = parts.keys ++ s ∷ [] })
layer_field Value parts field =
    bytes_in field.at field.payload
    then λ b. value_at field.at (content_start field) b
    then λ value. Ok (record parts { values = parts.values ++ value ∷ [] })
layer_field Extent parts field = number_in field.at field.payload then λ _. Ok parts
layer_field Version parts field = number_in field.at field.payload then λ n. Ok (record parts { version = Some n })
layer_field Unknown parts field = Ok parts

-- the same by the field's number
abbrev pub layer_step : LayerFields → WireField → Result LayerFields TileFault
layer_step parts field = layer_field (layer_member field.number) parts field

-- a layer before its first field
abbrev pub no_parts : LayerFields
no_parts = record { name = None; version = None; keys = []; values = []; features = [] }

-- a layer has a name
abbrev pub name_of : ℕ → Option (List ℕ) → Result (List ℕ) TileFault
name_of at None = refused kind.NoName at
name_of at (Some name) = Ok name

-- a layer has a version, which is 1 or 2
abbrev pub version_of : ℕ → Option ℕ → Result ℕ TileFault
version_of at None = refused kind.NoVersion at
version_of at (Some n) = if nat_eq n 1 then Ok n else if nat_eq n 2 then Ok n else refused kind.Version at

-- the name is none of the names of the layers before
abbrev pub new_name : ℕ → List (List ℕ) → List ℕ → Result (List ℕ) TileFault
new_name at earlier name = if list_any (bytes_eq name) earlier then refused kind.RepeatedName at else Ok name

-- the layer of these parts, at its end: first what the layer lacks, then its features
abbrev pub layer_end : ℕ → List (List ℕ) → LayerFields → Result TileLayer TileFault
layer_end at earlier parts =
    name_of at parts.name then λ name. version_of at parts.version then λ _. new_name at earlier name then λ _.
    features_of parts.keys parts.values [] parts.features
    then λ features. Ok (record { name = name; features = features })

-- the layer after layers of these names, whose tag is at `at` and whose content begins at `start`
abbrev pub layer_at : ℕ → ℕ → List (List ℕ) → List ℕ → Result TileLayer TileFault
layer_at at start earlier content = read_fields layer_step no_parts (message start content) then layer_end at earlier
