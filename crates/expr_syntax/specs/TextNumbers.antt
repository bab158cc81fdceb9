-- Texts with a number each, in an ordered map.
use Rattle.std.specs.Prelude.{◌≡◌, ℕ, List, Option, Some, if◌then◌else◌}
use Rattle.std.specs.BTreeMap.{BTreeMap, get_by}
use Rattle.std.specs.Ordering.{nat_cmp}
use Rattle.std.specs.Str.{bytes_eq}
use Rattle.std.specs.Cmp.Lexicographic.{slice_cmp}
use Rattle.std.specs.Box.{boxed_str_bytes}
use Rattle.std.specs.declared.boxed.BoxedStr.{BoxedStr}
use Rattle.std.specs.declared.alloc.Global.{Global}

-- the map, as contracts see it
abbrev pub TextNumbers : Type 0
TextNumbers = BTreeMap (BoxedStr Global) ℕ

-- the number that a map has for a text
abbrev pub number_of_text : TextNumbers → List ℕ → Option ℕ
number_of_text texts s = get_by (λ k. slice_cmp nat_cmp s (boxed_str_bytes k)) texts

-- A map as it was and as it is with one text more: that text has its number, each other what it had.
abbrev pub NotesText : List ℕ → ℕ → TextNumbers → TextNumbers → Type 0
NotesText text number old new =
    (s : List ℕ) → number_of_text new s ≡ (if bytes_eq text s then Some number else number_of_text old s)
