-- The properties of a feature, by the keys and values of its layer. Source: Vector Tile 2.1 §4.4.
use Rattle.std.specs.Prelude.{ℕ, ◌%◌, List, [], ◌∷◌, ◌++◌, length, Option, Some, None, Result, Ok, if◌then◌else◌}
use Rattle.std.specs.Prelude.{nat_eq, slice_get}
use Rattle.std.specs.Str.{bytes_eq}
use Rattle.prop_values.specs.Data.{Data}
use Rattle.tile_reader.specs.declared.fault.TileKind.TheVariants.{TagIndex, OddTags}
use Rattle.tile_reader.specs.declared.fault.TileFault.{TileFault}
use Rattle.tile_reader.specs.declared.tile.Feature.{Feature}
use Rattle.tile_reader.specs.Read.{refused, ◌then◌}
use Rattle.tile_reader.specs.Feature.{Tagged}

-- a key and a value, each where its index has one, before the pairs of the other tags
abbrev pub pair_before : Option (List ℕ) → Option Data → Option (List (List ℕ × Data)) → Option (List (List ℕ × Data))
pair_before (Some key) (Some value) (Some pairs) = Some ((key, value) ∷ pairs)
pair_before (Some key) (Some value) None = None
pair_before (Some key) None pairs = None
pair_before None value pairs = None

-- the pairs that tags name: each two are the index of a key and the index of a value
abbrev pub named : List (List ℕ) → List Data → List ℕ → Option (List (List ℕ × Data))
named keys values [] = Some []
named keys values (key ∷ []) = Some []
named keys values (key ∷ value ∷ tags) =
    pair_before (slice_get keys key) (slice_get values value) (named keys values tags)

-- a pair among earlier ones: in the place of its key, or at the end
abbrev pub put : List ℕ × Data → List (List ℕ × Data) → List (List ℕ × Data)
put pair [] = pair ∷ []
put pair (first ∷ pairs) = if bytes_eq pair.0 first.0 then pair ∷ pairs else first ∷ put pair pairs

-- pairs in order after earlier ones: a repeated key keeps its first place and takes its last value
abbrev pub put_all : List (List ℕ × Data) → List (List ℕ × Data) → List (List ℕ × Data)
put_all earlier [] = earlier
put_all earlier (pair ∷ pairs) = put_all (put pair earlier) pairs

-- a feature with the properties that its tags name
abbrev pub with_pairs : Tagged → Option (List (List ℕ × Data)) → Result Feature TileFault
with_pairs tagged None = refused TagIndex tagged.at
with_pairs tagged (Some pairs) = Ok (record { id = tagged.id; shape = tagged.shape; properties = put_all [] pairs })

-- a feature of a layer: its tags are pairs, and each index has its key or value
abbrev pub feature_of : List (List ℕ) → List Data → Tagged → Result Feature TileFault
feature_of keys values tagged =
    if nat_eq (length tagged.tags % 2) 1 then refused OddTags tagged.at else
    with_pairs tagged (named keys values tagged.tags)

-- the features of a layer in order, after earlier ones, up to the first fault
abbrev pub features_of : List (List ℕ) → List Data → List Feature → List Tagged → Result (List Feature) TileFault
features_of keys values earlier [] = Ok earlier
features_of keys values earlier (tagged ∷ others) =
    feature_of keys values tagged then λ feature. features_of keys values (earlier ++ feature ∷ []) others
