-- The tile of the generator. Source: own.
use Rattle.std.specs.Prelude.{ℕ, zero, suc, ◌*◌, pos, List, [], ◌∷◌, codes, Some}
use Rattle.prop_values.specs.Data.{number}
use Rattle.style_layout.specs.Shown.{SourceTile}
use Rattle.tile_reader.specs.declared.tile.Feature.{Feature}
use Rattle.tile_reader.specs.declared.tile.Shape.TheVariants.{Point}
use Rattle.tile_reader.specs.declared.tile.TileLayer.{TileLayer}
use Rattle.generated_runs.specs.Ranks.{next, rank}

-- a point of this id, with its rank as `r`
abbrev pub ranked_point : ℕ → ℕ → Feature
ranked_point id rank =
    record { id = Some id; shape = Point; properties = (codes "r", number (pos (rank * 1000000))) ∷ [] }

-- so many points, their ids from this one on, by the number before that of the first
abbrev pub ranked_points : (count id x : ℕ) → List Feature
ranked_points zero id x = []
ranked_points (suc count) id x = ranked_point id (rank (next x)) ∷ ranked_points count (suc id) (next x)

-- One layer `p`. Its features have the ids from 1 on, and their number is the first of the generator's.
abbrev pub generated_tile : ℕ → List TileLayer
generated_tile count = record { name = codes "p"; features = ranked_points count 1 count } ∷ []

-- the tile of the source `t`
abbrev pub generated_tiles : ℕ → List SourceTile
generated_tiles count = (codes "t", generated_tile count) ∷ []
