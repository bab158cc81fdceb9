-- An index of the inputs of categories.
use Rattle.std.specs.Prelude.{◌≡◌, ℕ, ◌+◌, ℤ, List, [], ◌∷◌, map, Bool, true, false, Option, Some, None, if◌then◌else◌}
use Rattle.std.specs.BTreeMap.{BTreeMap, get_by, get}
use Rattle.std.specs.Ordering.{int_cmp, int_eq, nat_cmp}
use Rattle.std.specs.Cmp.Lexicographic.{slice_cmp}
use Rattle.std.specs.Box.{boxed_str_bytes}
use Rattle.std.specs.declared.boxed.BoxedStr.{BoxedStr}
use Rattle.std.specs.declared.alloc.Global.{Global}
use Rattle.prop_values.specs.Data.{Data, boolean, number as number_data, text}
use Rattle.prop_values.specs.Equality.{same_text}
use Rattle.legacy_functions.specs.declared.categories.CategoryIndex.{CategoryIndex}
use Rattle.legacy_functions.specs.declared.function.Category.{Category}
use Rattle.legacy_functions.specs.Function.{Input, flag, number, word, Output}
use Rattle.legacy_functions.specs.Form.{same_input, all_differ, where_true}
use Rattle.legacy_functions.specs.Parts.{category_seen}

-- the index of the texts, as contracts see it
abbrev pub Texts : Type 0
Texts = BTreeMap (BoxedStr Global) ℕ

abbrev pub text_place : Texts → List ℕ → Option ℕ
text_place texts s = get_by (λ k. slice_cmp nat_cmp s (boxed_str_bytes k)) texts

abbrev pub flag_place : CategoryIndex → Bool → Option ℕ
flag_place index true = index.on_true
flag_place index false = index.on_false

-- the place that an index has for an input
abbrev pub place_at : CategoryIndex → Input → Option ℕ
place_at index (flag b) = flag_place index b
place_at index (number n) = get int_cmp index.numbers n.value
place_at index (word s) = text_place index.texts s

-- the place that an index has for a value
abbrev pub value_place : CategoryIndex → Data → Option ℕ
value_place index (boolean b) = flag_place index b
value_place index (number_data z) = get int_cmp index.numbers z
value_place index (text s) = text_place index.texts s
value_place index _ = None

-- An index as it was and as it is with one input more: that one has its place, each other what it had.
abbrev pub NotesInput : Input → ℕ → CategoryIndex → CategoryIndex → Type 0
NotesInput input place old new =
    (i : Input) → place_at new i ≡ (if same_input input i then Some place else place_at old i)

abbrev pub NotesText : List ℕ → ℕ → Texts → Texts → Type 0
NotesText name place old new =
    (s : List ℕ) → text_place new s ≡ (if same_text name s then Some place else text_place old s)

abbrev pub NotesNumber : ℤ → ℕ → BTreeMap ℤ ℕ → BTreeMap ℤ ℕ → Type 0
NotesNumber y place old new = (z : ℤ) → get int_cmp new z ≡ (if int_eq y z then Some place else get int_cmp old z)

-- the first place of an input, where places are counted from this one
abbrev pub listed_place : ℕ → List (Input × Output) → Input → Option ℕ
listed_place k [] i = None
listed_place k (s ∷ ss) i = if same_input s.0 i then Some k else listed_place (k + 1) ss i

-- The index has each of the inputs with its place, and no other.
abbrev pub IsIndexOf : CategoryIndex → List Category → Type 0
IsIndexOf index stops = (i : Input) → place_at index i ≡ listed_place 0 (map category_seen stops) i

-- stops, or none where the input of one is that of another
abbrev pub distinct_categories : List Category → Option (List Category)
distinct_categories stops = where_true (all_differ (λ i. false) (map category_seen stops)) (Some stops)

-- An index of stops of which no two inputs are equal, and none else.
abbrev pub IsIndexOrNone : Option CategoryIndex → List Category → Type 0
IsIndexOrNone (Some index) stops = IsIndexOf index stops × (all_differ (λ i. false) (map category_seen stops) ≡ true)
IsIndexOrNone None stops = all_differ (λ i. false) (map category_seen stops) ≡ false
