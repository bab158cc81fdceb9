-- The properties of features as ranges of the pairs of their layer.
use Rattle.std.specs.Prelude.{◌≡◌, ℕ, ◌+◌, ◌<◌, ◌≤◌, List, [], ◌∷◌, length, map, take, drop, Option, Some, None}
use Rattle.std.specs.Prelude.{slice_index_or}
use Rattle.std.specs.Borrow.{Bor}
use Rattle.key_index.specs.Index.{IsIndexed}
use Rattle.prop_values.specs.Data.{Data}
use Rattle.prop_values.specs.Keys.{HasDistinctKeys}
use Rattle.prop_values.specs.View.{data_of}
use Rattle.tile_reader.specs.Lookup.{IndicesWithin, pairs_seen}
use Rattle.tile_reader.specs.Ids.{front_id, after_id, count_of_id}
use Rattle.tile_reader.specs.declared.feature_properties.IndexedKey.{IndexedKey}
use Rattle.tile_reader.specs.declared.feature_properties.IndexedKeys.{IndexedKeys}
use Rattle.tile_reader.specs.declared.feature_properties.LayerTable.{LayerTable}
use Rattle.tile_reader.specs.declared.feature_properties.SharedTable.{SharedTable}
use Rattle.tile_reader.specs.declared.feature_properties.SharedTable.TheVariants.{Empty, Plain, Indexed}
use Rattle.tile_reader.specs.declared.properties.ChosenFeature.{ChosenFeature}
use Rattle.tile_reader.specs.declared.tile.Feature.{Feature}

-- so many elements of a list, from one on
abbrev pub range : {X : Type 0} → List X → ℕ → ℕ → List X
range xs first count = take count (drop first xs)

-- the keys of pairs
abbrev pub pair_keys : List (List ℕ) → List (ℕ × ℕ) → List (List ℕ)
pair_keys keys = map (λ (pair : ℕ × ℕ). slice_index_or keys pair.0 [])

-- The pairs are there, each has its key and its value, and no key occurs twice.
pub record IsRange (keys : List (List ℕ)) (values : List Data) (pairs : List (ℕ × ℕ)) (first count : ℕ) : Type 0 where
  pub within : first + count ≤ length pairs
  pub inside : (i : ℕ) → i < length (range pairs first count) →
      IndicesWithin (length keys) (length values) (slice_index_or (range pairs first count) i (0, 0))
  pub distinct : HasDistinctKeys (pairs_seen keys values (range pairs first count))

-- a feature whose properties are a range of these pairs, from the first one on, and whose id is at the front of these
abbrev pub feature_in : List (List ℕ) → List Data → List (ℕ × ℕ) → List ℕ → ℕ → ChosenFeature → Feature
feature_in keys values pairs ids first chosen = record {
  id = front_id chosen.has_id ids;
  shape = chosen.shape;
  properties = pairs_seen keys values (range pairs first chosen.count);
}

-- features whose pairs and ids are one after the other
abbrev pub features_in : List (List ℕ) → List Data → List (ℕ × ℕ) → List ℕ → ℕ → List ChosenFeature → List Feature
features_in keys values pairs ids first [] = []
features_in keys values pairs ids first (chosen ∷ others) =
    feature_in keys values pairs ids first chosen
    ∷ features_in keys values pairs (after_id chosen.has_id ids) (first + chosen.count) others

-- how many pairs features have
abbrev pub count_of_pairs : List ChosenFeature → ℕ
count_of_pairs [] = 0
count_of_pairs (chosen ∷ others) = chosen.count + count_of_pairs others

-- how many ids features have
abbrev pub count_of_ids : List ChosenFeature → ℕ
count_of_ids [] = 0
count_of_ids (chosen ∷ others) = count_of_id chosen.has_id + count_of_ids others

-- the range of each
abbrev pub AreRanges : List (List ℕ) → List Data → List (ℕ × ℕ) → ℕ → List ChosenFeature → Type 0
AreRanges keys values pairs first [] = Unit {0}
AreRanges keys values pairs first (chosen ∷ others) =
    IsRange keys values pairs first chosen.count × AreRanges keys values pairs (first + chosen.count) others

-- the texts of keys
abbrev pub key_texts : List IndexedKey → List (List ℕ)
key_texts = map (λ (key : IndexedKey). key.text)

-- an index of these keys
abbrev pub IsKeyIndex : IndexedKeys → List (List ℕ) → Type 0
IsKeyIndex indexed keys = (key_texts indexed.keys.items ≡ keys) × IsIndexed indexed.index keys

-- where there is an index, it is one of these keys
abbrev pub HasKeys : Option (Bor IndexedKeys) → List (List ℕ) → Type 0
HasKeys None keys = Unit {0}
HasKeys (Some indexed) keys = IsKeyIndex indexed.now keys

-- the properties that a range of a layer's pairs are
abbrev pub range_seen : LayerTable → ℕ → ℕ → List (List ℕ × Data)
range_seen table first count =
    pairs_seen table.keys.items (map data_of table.values.items) (range table.pairs.items first count)

-- so many pairs of a layer are a range
abbrev pub IsRangeOf : LayerTable → ℕ → ℕ → Type 0
IsRangeOf table first count = IsRange table.keys.items (map data_of table.values.items) table.pairs.items first count

-- the properties of a feature that shares a table
abbrev pub properties_seen : SharedTable → ℕ → ℕ → List (List ℕ × Data)
properties_seen Empty first count = []
properties_seen (Plain table) first count = range_seen table.value first count
properties_seen (Indexed boxed) first count = range_seen boxed.value.table.value first count

-- they are a range, and an index has their keys
abbrev pub AreShared : SharedTable → ℕ → ℕ → Type 0
AreShared Empty first count = Unit {0}
AreShared (Plain table) first count = IsRangeOf table.value first count
AreShared (Indexed boxed) first count =
    IsRangeOf boxed.value.table.value first count
    × IsKeyIndex boxed.value.keys
    (pair_keys boxed.value.table.value.keys.items (range boxed.value.table.value.pairs.items first count))
