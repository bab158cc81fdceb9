-- The names of the layers of a tile.
use Rattle.std.specs.Prelude.{ℕ, List, [], ◌∷◌, map, Option, Some, None, if◌then◌else◌}
use Rattle.std.specs.Str.{bytes_eq}
use Rattle.tile_reader.specs.declared.tile.TileLayer.{TileLayer}

-- the names of layers
abbrev pub names : List TileLayer → List (List ℕ)
names = map (λ (layer : TileLayer). layer.name)

-- the layer that has a name, which is the first and the only one in a tile
abbrev pub layer_named : List ℕ → List TileLayer → Option TileLayer
layer_named name [] = None
layer_named name (layer ∷ layers) = if bytes_eq layer.name name then Some layer else layer_named name layers
