-- The extents of the layers of a tile, which a reader of its features does not keep. Source: Vector Tile 2.1 §4.1 and
-- the table of the message Layer.
use Rattle.std.specs.Prelude.{ℕ, List, [], ◌∷◌, flat_map, map}
use Rattle.proto_wire.specs.Message.{Payload, varint, bits64, bytes, bits32, WireField, content_of}
use Rattle.tile_reader.specs.Format.{fields_of_number, last_else}
use Rattle.tile_reader.specs.Message.{message}

-- the extent of a layer that says none, in units of its grid
abbrev pub default_extent : ℕ
default_extent = 4096

-- the number that a field holds; a tile has no extent of another form
abbrev pub number_held : Payload → List ℕ
number_held (varint n) = n ∷ []
number_held (bits64 n) = []
number_held (bytes b) = []
number_held (bits32 n) = []

-- of the fields 5 of a layer the last holds
abbrev pub extent_of : List WireField → ℕ
extent_of fields =
    last_else default_extent (flat_map (λ (field : WireField). number_held field.payload) (fields_of_number 5 fields))

-- the extent of the layer that these bytes are
abbrev pub extent_in : List ℕ → ℕ
extent_in content = extent_of (message 0 content).fields

-- the extents of the layers of these fields of a tile, which are its fields 3
abbrev pub layer_extents : List WireField → List ℕ
layer_extents fields = map (λ (field : WireField). extent_in (content_of field.payload)) (fields_of_number 3 fields)

-- those of the tile that these bytes are
abbrev pub extents_of : List ℕ → List ℕ
extents_of b = layer_extents (message 0 b).fields
