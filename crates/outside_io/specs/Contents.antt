-- Named files as a finite map from the bytes of a name to the bytes of the file.
use Rattle.std.specs.Prelude.{ℕ, List, map, String, string_bytes, Option}
use Rattle.std.specs.Global.{Global, Vec}
use Rattle.std.specs.Ordering.{nat_cmp}
use Rattle.std.specs.Cmp.Lexicographic.{slice_cmp}
use Rattle.std.specs.Coded.{Coded, coded_ℕ, coded_list}
use Rattle.std.specs.BTreeMap.{BTreeMap}
use Rattle.std.specs.FinMap as finite

-- the files by name
abbrev pub Contents : Type 0
Contents = finite.FinMap (slice_cmp nat_cmp) (List ℕ)

abbrev pub contents_code : Coded Contents
contents_code = finite.code (coded_list coded_ℕ) (coded_list coded_ℕ)

-- the bytes of the file of this name, if there is one
abbrev pub bytes_of : Contents → List ℕ → Option (List ℕ)
bytes_of files name = finite.get files name

-- the files, with these bytes under this name
abbrev pub with_file : Contents → List ℕ → List ℕ → Contents
with_file files name bytes = finite.insert files name bytes

abbrev pub no_files : Contents
no_files = finite.empty

-- a name and its bytes, as texts
abbrev pub named : String Global × Vec ℕ → List ℕ × List ℕ
named entry = (string_bytes entry.0, entry.1.items)

-- what a map of names and bytes holds
abbrev pub contents : BTreeMap (String Global) (Vec ℕ) → Contents
contents files = finite.from_entries (map named files.entries)
