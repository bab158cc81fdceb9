-- The places of keys in an ordered map.
use Rattle.std.specs.Prelude.{◌≡◌, ℕ, List, Option}
use Rattle.std.specs.BTreeMap.{BTreeMap, get_by_text}
use Rattle.std.specs.declared.string.String.{String}
use Rattle.std.specs.declared.alloc.Global.{Global}
use Rattle.key_index.specs.Keys.{place_from}

-- the place that the map has for a key
abbrev pub noted : BTreeMap (String Global) ℕ → List ℕ → Option ℕ
noted places key = get_by_text places key

-- The map has the place of each of these keys, and of no other.
abbrev pub ArePlacesOf : BTreeMap (String Global) ℕ → List (List ℕ) → Type 0
ArePlacesOf places keys = (key : List ℕ) → noted places key ≡ place_from 0 key keys
