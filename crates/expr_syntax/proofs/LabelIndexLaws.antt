-- An index of labels, one label after another.
use Rattle.std.proofs.Common.{◌≡◌, ◌<◌, ◌+◌, List, [], ◌∷◌, ℕ, suc, ℤ, length, get_or, drop, drop-cons, add-one, refl, ap, sym, subst, ◌∙◌, true, false}
use Rattle.std.proofs.lemmas.Bool.{false≢true}
use Rattle.std.proofs.lemmas.Bool.Decides.{Decides-int_eq}
use Rattle.std.proofs.lemmas.Slice.Eq.{bytes_eq-Decides}
use Rattle.std.specs.BTreeMap.{get}
use Rattle.std.specs.Option.{option_or}
use Rattle.std.specs.Ordering.{int_cmp, int_eq}
use Rattle.std.specs.Prelude.{Bool, ◌||◌, Option, Some, None, is_some, if◌then◌else◌}
use Rattle.std.specs.Str.{bytes_eq}
use Rattle.fixed_num.specs.declared.color.Color.{Color}
use Rattle.prop_values.specs.Data.{Data, null, boolean, number, text, color, list, map}
use Rattle.expr_syntax.specs.declared.label_index.LabelIndex.{LabelIndex}
use Rattle.expr_syntax.specs.declared.parts.Label.{Label}
use Rattle.expr_syntax.specs.declared.parts.Label.TheVariants.{Text, Number}
use Rattle.expr_syntax.specs.declared.parts.Labelled.{Labelled}
use Rattle.expr_syntax.specs.Chosen.{is_equal_to, output_of}
use Rattle.expr_syntax.specs.LabelIndex.{output_at, value_output, listed_output, IsIndexOfLabels, NotesLabel}
use Rattle.expr_syntax.specs.LabelLists.{same_label, repeats}
use Rattle.expr_syntax.specs.TextNumbers.{number_of_text}

-- ---- labels, one after another

-- the index with the labels to come has all
abbrev pub IsIndexWith : LabelIndex → List Labelled → List Labelled → Type 0
IsIndexWith index later all = (m : Label) → option_or (output_at index m) (listed_output later m) ≡ listed_output all m

-- the labels to come repeat none that is in the index, nor one another, where none repeats another
abbrev pub RepeatsWith : LabelIndex → List Labelled → List Labelled → Type 0
RepeatsWith index later all = repeats (λ m. is_some (output_at index m)) later ≡ repeats (λ m. false) all

-- tests that agree on each label find the same
repeats_same : (f g : Label → Bool) (ls : List Labelled) → ((m : Label) → f m ≡ g m) → repeats f ls ≡ repeats g ls
repeats_same f g ls same = λ k. repeats (λ m. same m k) ls

some_if : (b : Bool) (o : ℕ) (x : Option ℕ) → is_some (if b then Some o else x) ≡ (b || is_some x)
some_if true o x = refl
some_if false o x = refl

pub repeats_first : (index : LabelIndex) (all : List Labelled) → ((m : Label) → output_at index m ≡ None) → RepeatsWith index all all
repeats_first index all none = repeats_same (λ m. is_some (output_at index m)) (λ m. false) all (λ m. ap is_some (none m))

pub index_first : (index : LabelIndex) (all : List Labelled) → ((m : Label) → output_at index m ≡ None) → IsIndexWith index all all
index_first index all none m = ap (λ x. option_or x (listed_output all m)) (none m)

pub repeats_more : (new old : LabelIndex) (l : Labelled) (later all : List Labelled) → NotesLabel l.label l.output old new → output_at old l.label ≡ None → RepeatsWith old (l ∷ later) all → RepeatsWith new later all
repeats_more new old l later all noted none h =
    repeats_same (λ m. is_some (output_at new m)) (λ m. same_label l.label m || is_some (output_at old m)) later
    (λ m. ap is_some (noted m) ∙ some_if (same_label l.label m) l.output (output_at old m))
    ∙ (sym (ap (λ x. is_some x || repeats (λ m. same_label l.label m || is_some (output_at old m)) later) none) ∙ h)

pub repeats_found : (index : LabelIndex) (l : Labelled) (later all : List Labelled) (output : ℕ) → output_at index l.label ≡ Some output → RepeatsWith index (l ∷ later) all → repeats (λ m. false) all ≡ true
repeats_found index l later all output found h =
    sym h ∙ ap (λ x. is_some x || repeats (λ m. same_label l.label m || is_some (output_at index m)) later) found

-- equal labels have one output
same_none : (index : LabelIndex) (l m : Label) → same_label l m ≡ true → output_at index l ≡ None → output_at index m ≡ None
same_none index (Text s) (Text t) e none = subst (λ u. number_of_text index.texts u ≡ None) ((bytes_eq-Decides s t).0 e) none
same_none index (Number y) (Number z) e none = subst (λ u. get int_cmp index.numbers u ≡ None) ((Decides-int_eq y z).0 e) none
same_none index (Text s) (Number z) e none = absurd (false≢true e)
same_none index (Number y) (Text t) e none = absurd (false≢true e)

turned : (b : Bool) (output : ℕ) (old later : Option ℕ) → (b ≡ true → old ≡ None) → option_or (if b then Some output else old) later ≡ option_or old (if b then Some output else later)
turned true output old later none = sym (ap (λ x. option_or x (Some output)) (none refl))
turned false output old later none = refl

pub index_more : (new old : LabelIndex) (l : Labelled) (later all : List Labelled) → NotesLabel l.label l.output old new → output_at old l.label ≡ None → IsIndexWith old (l ∷ later) all → IsIndexWith new later all
index_more new old l later all noted none h m =
    ap (λ x. option_or x (listed_output later m)) (noted m)
    ∙ (turned (same_label l.label m) l.output (output_at old m) (listed_output later m) (λ e. same_none old l.label m e none) ∙ h m)

pub not_some : (x : Option ℕ) → is_some x ≡ false → x ≡ None
not_some (Some k) h = absurd (cc)
not_some None h = refl

pub next_label : (labels : List Labelled) (i : ℕ) (l : Labelled) → i < length labels → l ≡ get_or labels i l → drop i labels ≡ l ∷ drop (i + 1) labels
next_label labels i l h is = drop-cons labels i l h ∙ (ap (λ x. x ∷ drop (suc i) labels) (sym is) ∙ ap (λ k. l ∷ drop k labels) (sym (add-one i)))

or_none : (x : Option ℕ) → option_or x None ≡ x
or_none (Some k) = refl
or_none None = refl

pub index_whole : (index : LabelIndex) (all : List Labelled) → IsIndexWith index [] all → IsIndexOfLabels index all
index_whole index all h m = sym (or_none (output_at index m)) ∙ h m

-- ---- what a value finds

abbrev or_last : Option ℕ → ℕ → ℕ
or_last (Some k) last = k
or_last None last = last

chosen_if : (b : Bool) (output : ℕ) (later : Option ℕ) (rest last : ℕ) → or_last later last ≡ rest → or_last (if b then Some output else later) last ≡ (if b then output else rest)
chosen_if true output later rest last h = refl
chosen_if false output later rest last h = h

text_step : (label : Label) (output : ℕ) (s : List ℕ) (later : Option ℕ) (rest last : ℕ) → or_last later last ≡ rest → or_last (if same_label label (Text s) then Some output else later) last ≡ (if is_equal_to label (text s) then output else rest)
text_step (Text t) output s later rest last h = chosen_if (bytes_eq t s) output later rest last h
text_step (Number z) output s later rest last h = h

text_chosen : (ls : List Labelled) (s : List ℕ) (last : ℕ) → or_last (listed_output ls (Text s)) last ≡ output_of ls (text s) last
text_chosen [] s last = refl
text_chosen (l ∷ ls) s last = text_step l.label l.output s (listed_output ls (Text s)) (output_of ls (text s) last) last (text_chosen ls s last)

number_step : (label : Label) (output : ℕ) (z : ℤ) (later : Option ℕ) (rest last : ℕ) → or_last later last ≡ rest → or_last (if same_label label (Number z) then Some output else later) last ≡ (if is_equal_to label (number z) then output else rest)
number_step (Text t) output z later rest last h = h
number_step (Number y) output z later rest last h = chosen_if (int_eq y z) output later rest last h

number_chosen : (ls : List Labelled) (z : ℤ) (last : ℕ) → or_last (listed_output ls (Number z)) last ≡ output_of ls (number z) last
number_chosen [] z last = refl
number_chosen (l ∷ ls) z last = number_step l.label l.output z (listed_output ls (Number z)) (output_of ls (number z) last) last (number_chosen ls z last)

-- a value that is no text and no number has no label
abbrev HasNoLabel : Data → Type 0
HasNoLabel d = (label : Label) → is_equal_to label d ≡ false

none_chosen : (ls : List Labelled) (d : Data) (last : ℕ) → HasNoLabel d → last ≡ output_of ls d last
none_chosen [] d last none = refl
none_chosen (l ∷ ls) d last none = none_chosen ls d last none ∙ sym (ap (λ b. if b then l.output else output_of ls d last) (none l.label))

no_null : HasNoLabel null
no_null (Text s) = refl
no_null (Number z) = refl

no_boolean : (b : Bool) → HasNoLabel (boolean b)
no_boolean b (Text s) = refl
no_boolean b (Number z) = refl

pub chosen : (index : LabelIndex) (ls : List Labelled) (d : Data) (last : ℕ) → IsIndexOfLabels index ls → or_last (value_output index d) last ≡ output_of ls d last
chosen index ls (text s) last whole = ap (λ x. or_last x last) (whole (Text s)) ∙ text_chosen ls s last
chosen index ls (number z) last whole = ap (λ x. or_last x last) (whole (Number z)) ∙ number_chosen ls z last
chosen index ls null last whole = none_chosen ls null last no_null
chosen index ls (boolean b) last whole = none_chosen ls (boolean b) last (no_boolean b)
chosen index ls (color c) last whole = none_chosen ls (color c) last (λ label. no_color c label)
  where
    no_color : (c : Color) → HasNoLabel (color c)
    no_color c (Text s) = refl
    no_color c (Number z) = refl
chosen index ls (list ds) last whole = none_chosen ls (list ds) last (λ label. no_list label)
  where
    no_list : HasNoLabel (list ds)
    no_list (Text s) = refl
    no_list (Number z) = refl
chosen index ls (map ps) last whole = none_chosen ls (map ps) last (λ label. no_map label)
  where
    no_map : HasNoLabel (map ps)
    no_map (Text s) = refl
    no_map (Number z) = refl

pub chosen_some : (index : LabelIndex) (ls : List Labelled) (d : Data) (last output : ℕ) → IsIndexOfLabels index ls → value_output index d ≡ Some output → output ≡ output_of ls d last
chosen_some index ls d last output whole found = sym (ap (λ x. or_last x last) found) ∙ chosen index ls d last whole

pub chosen_none : (index : LabelIndex) (ls : List Labelled) (d : Data) (last : ℕ) → IsIndexOfLabels index ls → value_output index d ≡ None → last ≡ output_of ls d last
chosen_none index ls d last whole found = sym (ap (λ x. or_last x last) found) ∙ chosen index ls d last whole

pub ruleset index_rules = (repeats_first, index_first, repeats_found, index_whole)
