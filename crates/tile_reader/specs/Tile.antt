-- A tile: its layers are fields 3, and all else is skipped. Source: Vector Tile 2.1 §4.
use Rattle.std.specs.Prelude.{ℕ, List, [], ◌∷◌, ◌++◌, Bool, false, Result, Ok, if◌then◌else◌, nat_eq, ◌&&◌}
use Rattle.proto_wire.specs.Message.{WireField, content_start}
use Rattle.tile_reader.specs.declared.fault.TileKind.TheVariants.{Compressed}
use Rattle.tile_reader.specs.declared.fault.TileFault.{TileFault}
use Rattle.tile_reader.specs.declared.tile.TileLayer.{TileLayer}
use Rattle.tile_reader.specs.Message.{message}
use Rattle.tile_reader.specs.Read.{refused, ◌then◌, read_fields, bytes_in}
use Rattle.tile_reader.specs.Layer.{layer_at}
use Rattle.tile_reader.specs.Names.{names}

-- what a field adds to a tile
abbrev pub tile_step : List TileLayer → WireField → Result (List TileLayer) TileFault
tile_step layers field =
    if nat_eq field.number 3
    then (bytes_in field.at field.payload
    then λ b. layer_at field.at (content_start field) (names layers) b then λ layer. Ok (layers ++ layer ∷ []))
    else Ok layers

-- the bytes begin as a gzip file. Source: RFC 1952 §2.3.1.
abbrev pub is_compressed : List ℕ → Bool
is_compressed [] = false
is_compressed (c ∷ []) = false
is_compressed (c ∷ d ∷ b) = nat_eq c 0x1F && nat_eq d 0x8B

-- The layers of the tile that these bytes are, or their first fault. Compressed bytes are looked at no
-- further. The empty bytes are a tile without layers.
unfoldable pub tile_of : List ℕ → Result (List TileLayer) TileFault
tile_of b = if is_compressed b then refused Compressed 0 else read_fields tile_step [] (message 0 b)
