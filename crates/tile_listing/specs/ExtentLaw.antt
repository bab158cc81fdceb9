-- What the extents of a tile are to its layers.
use Rattle.std.specs.Prelude.{◌≡◌, ℕ, List, length, Ok}
use Rattle.tile_reader.specs.Tile.{tile_of}
use Rattle.tile_reader.specs.declared.tile.TileLayer.{TileLayer}
use Rattle.tile_listing.specs.Extents.{extents_of}

-- as many extents as layers
abbrev pub EachLayerHasItsExtent : Type 0
EachLayerHasItsExtent =
    (b : List ℕ) (layers : List TileLayer) → tile_of b ≡ Ok layers → length (extents_of b) ≡ length layers
