-- An index of keys, and the keys that it represents.
use Rattle.std.specs.Prelude.{ℕ, ◌<◌, List, length}
use Rattle.key_index.specs.Ascending.{IsAscending}
use Rattle.key_index.specs.Places.{ArePlacesOf}
use Rattle.key_index.specs.Table.{IsTable}
use Rattle.key_index.specs.declared.index.KeyIndex.{KeyIndex}
use Rattle.key_index.specs.declared.index.Search.{Search}
use Rattle.key_index.specs.declared.index.Search.TheVariants.{OneByOne, ByHalves, ByTable, ByOrder}

-- A way to look for keys that finds each of them: one by one always does, by halves where more than 15 keys
-- ascend, by a table of the keys after the first 16, and by the places of all keys.
abbrev pub IsSearch : Search → List (List ℕ) → Type 0
IsSearch OneByOne keys = Unit {0}
IsSearch ByHalves keys = (15 < length keys) × IsAscending keys
IsSearch (ByTable boxed) keys = IsTable boxed.value keys
IsSearch (ByOrder boxed) keys = ArePlacesOf boxed.value keys

-- The index represents the keys.
abbrev pub IsIndexed : KeyIndex → List (List ℕ) → Type 0
IsIndexed index keys = IsSearch index.search keys
