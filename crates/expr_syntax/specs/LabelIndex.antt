-- An index of the labels of a `match`.
use Rattle.std.specs.Prelude.{◌≡◌, ℕ, ℤ, List, [], ◌∷◌, true, false, Option, Some, None, if◌then◌else◌}
use Rattle.std.specs.BTreeMap.{BTreeMap, get}
use Rattle.std.specs.Ordering.{int_cmp, int_eq}
use Rattle.prop_values.specs.Data.{Data, number, text}
use Rattle.expr_syntax.specs.declared.label_index.LabelIndex.{LabelIndex}
use Rattle.expr_syntax.specs.declared.parts.Label.{Label}
use Rattle.expr_syntax.specs.declared.parts.Label.TheVariants.{Text, Number}
use Rattle.expr_syntax.specs.declared.parts.Labelled.{Labelled}
use Rattle.expr_syntax.specs.LabelLists.{same_label, repeats}
use Rattle.expr_syntax.specs.TextNumbers.{number_of_text}

-- the output that an index has for a label
abbrev pub output_at : LabelIndex → Label → Option ℕ
output_at index (Text s) = number_of_text index.texts s
output_at index (Number z) = get int_cmp index.numbers z

-- the output that an index has for a value
abbrev pub value_output : LabelIndex → Data → Option ℕ
value_output index (text s) = output_at index (Text s)
value_output index (number z) = output_at index (Number z)
value_output index _ = None

-- An index as it was and as it is with one label more: that label has its output, each other what it had.
abbrev pub NotesLabel : Label → ℕ → LabelIndex → LabelIndex → Type 0
NotesLabel label output old new =
    (m : Label) → output_at new m ≡ (if same_label label m then Some output else output_at old m)

abbrev pub NotesNumber : ℤ → ℕ → BTreeMap ℤ ℕ → BTreeMap ℤ ℕ → Type 0
NotesNumber y output old new = (z : ℤ) → get int_cmp new z ≡ (if int_eq y z then Some output else get int_cmp old z)

-- the output of a label in a list
abbrev pub listed_output : List Labelled → Label → Option ℕ
listed_output [] m = None
listed_output (l ∷ ls) m = if same_label l.label m then Some l.output else listed_output ls m

-- The index has each of the labels with its output, and no other.
abbrev pub IsIndexOfLabels : LabelIndex → List Labelled → Type 0
IsIndexOfLabels index labels = (m : Label) → output_at index m ≡ listed_output labels m

-- labels, or none where one occurs twice
abbrev pub distinct_labels : List Labelled → Option (List Labelled)
distinct_labels labels = if repeats (λ m. false) labels then None else Some labels

-- An index of labels where no two are equal, and none else.
abbrev pub IsIndexOrNone : Option LabelIndex → List Labelled → Type 0
IsIndexOrNone (Some index) labels = IsIndexOfLabels index labels × (repeats (λ m. false) labels ≡ false)
IsIndexOrNone None labels = repeats (λ m. false) labels ≡ true
