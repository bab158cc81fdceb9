-- An index of inputs, one input after another.
use Rattle.std.proofs.Common.{◌≡◌, ◌<◌, ◌≤◌, ◌+◌, ◌-◌, List, [], ◌∷◌, ℕ, suc, ℤ, length, get_or, drop, drop-cons, add-one, refl, ap, sym, subst, ◌∙◌, arith, true, false}
use Rattle.std.proofs.lemmas.Bool.{false≢true}
use Rattle.std.proofs.lemmas.Bool.Decides.{Decides-int_eq}
use Rattle.std.proofs.lemmas.Slice.Eq.{bytes_eq-Decides}
use Rattle.std.proofs.lemmas.Map.Text.{is_eq-slice_cmp}
use Rattle.std.specs.BTreeMap.{UpdatesBy, get}
use Rattle.std.specs.Box.{boxed_str_bytes}
use Rattle.std.specs.Cmp.{eq_by_cmp_equiv}
use Rattle.std.specs.Cmp.Lexicographic.{slice_cmp, bytes_decides, nat_list_cmp_total, nat_list_eq_equiv}
use Rattle.std.specs.Map.{lookup, KeepsOthers, IsKeyTest, AreApart}
use Rattle.std.specs.Option.{option_or}
use Rattle.std.specs.Ordering.{is_eq, nat_cmp, int_cmp}
use Rattle.std.specs.Prelude.{Bool, not, ◌&&◌, ◌||◌, Option, Some, None, is_some, map, if◌then◌else◌}
use Rattle.std.specs.Str.{bytes_eq}
use Rattle.prop_values.specs.Data.{Data, null, boolean, number as number_data, text, color, list, map as mapping}
use Rattle.prop_values.specs.Equality.{same_flag}
use Rattle.legacy_functions.specs.declared.categories.CategoryIndex.{CategoryIndex}
use Rattle.legacy_functions.specs.declared.function.Category.{Category}
use Rattle.legacy_functions.specs.Function.{Input, flag, number, word}
use Rattle.legacy_functions.specs.Form.{same_input, all_differ, Stop}
use Rattle.legacy_functions.specs.Meaning.{is_input, chosen_output}
use Rattle.legacy_functions.specs.Parts.{input_seen, output_seen, category_seen}
use Rattle.legacy_functions.specs.CategoryIndex.{Texts, text_place, flag_place, place_at, value_place, listed_place, IsIndexOf, NotesInput}

-- ---- a text in the map of texts: what a change at one key leaves at each other

-- a key that equals one text equals no other
apart : (bs cs ks : List ℕ) → bytes_eq bs cs ≡ false → is_eq (slice_cmp nat_cmp bs ks) ≡ true → is_eq (slice_cmp nat_cmp cs ks) ≡ false
apart bs cs ks differs same = is_eq-slice_cmp cs ks ∙ nat_list_eq_equiv.symm cs ks ∙ sym (nat_list_eq_equiv.congr bs ks cs (sym (is_eq-slice_cmp bs ks) ∙ same)) ∙ differs

others_stay : {K X : Type 0} (eq : K → K → Bool) (test : K → Bool) (old new : List (K × X)) → KeepsOthers eq test old new → (other : K → Bool) → IsKeyTest eq other → AreApart test other → lookup other new ≡ lookup other old
unfolding KeepsOthers
others_stay eq test old new keeps = keeps

noted_at : (bs cs : List ℕ) (m n : Texts) (w : Option ℕ) (t : Bool) → UpdatesBy (λ x y. slice_cmp nat_cmp (boxed_str_bytes x) (boxed_str_bytes y)) (λ k. slice_cmp nat_cmp bs (boxed_str_bytes k)) m n w → bytes_eq bs cs ≡ t → text_place n cs ≡ (if t then w else text_place m cs)
noted_at bs cs m n w true changed e = subst (λ key. text_place n key ≡ w) ((bytes_decides bs cs).0 e) changed.1
noted_at bs cs m n w false changed e = others_stay _ _ _ _ changed.3 _ (λ x y. (eq_by_cmp_equiv nat_list_cmp_total).congr cs (boxed_str_bytes x) (boxed_str_bytes y)) (λ k. apart bs cs (boxed_str_bytes k) e)

pub text_noted : (bs : List ℕ) (m n : Texts) (w : Option ℕ) → UpdatesBy (λ x y. slice_cmp nat_cmp (boxed_str_bytes x) (boxed_str_bytes y)) (λ k. slice_cmp nat_cmp bs (boxed_str_bytes k)) m n w → (cs : List ℕ) → text_place n cs ≡ (if bytes_eq bs cs then w else text_place m cs)
text_noted bs m n w changed cs = noted_at bs cs m n w (bytes_eq bs cs) changed refl

-- ---- inputs, one after another

-- the index with the stops to come has all
abbrev pub IsIndexWith : CategoryIndex → ℕ → List Stop → List Stop → Type 0
IsIndexWith index k later all = (i : Input) → option_or (place_at index i) (listed_place k later i) ≡ listed_place 0 all i

-- the inputs to come differ from those in the index, and from one another, where all do
abbrev pub DiffersWith : CategoryIndex → List Stop → List Stop → Type 0
DiffersWith index later all = all_differ (λ i. is_some (place_at index i)) later ≡ all_differ (λ i. false) all

-- tests that agree on each input find the same
differ_same : (f g : Input → Bool) (ss : List Stop) → ((i : Input) → f i ≡ g i) → all_differ f ss ≡ all_differ g ss
differ_same f g ss same = λ k. all_differ (λ i. same i k) ss

some_if : (b : Bool) (o : ℕ) (x : Option ℕ) → is_some (if b then Some o else x) ≡ (b || is_some x)
some_if true o x = refl
some_if false o x = refl

pub differ_first : (index : CategoryIndex) (all : List Stop) → ((i : Input) → place_at index i ≡ None) → DiffersWith index all all
differ_first index all none = differ_same (λ i. is_some (place_at index i)) (λ i. false) all (λ i. ap is_some (none i))

pub index_first : (index : CategoryIndex) (all : List Stop) → ((i : Input) → place_at index i ≡ None) → IsIndexWith index 0 all all
index_first index all none i = ap (λ x. option_or x (listed_place 0 all i)) (none i)

pub differ_more : (new old : CategoryIndex) (k : ℕ) (s : Stop) (later all : List Stop) → NotesInput s.0 k old new → place_at old s.0 ≡ None → DiffersWith old (s ∷ later) all → DiffersWith new later all
differ_more new old k s later all noted none h =
    differ_same (λ i. is_some (place_at new i)) (λ i. same_input s.0 i || is_some (place_at old i)) later
    (λ i. ap is_some (noted i) ∙ some_if (same_input s.0 i) k (place_at old i))
    ∙ (sym (ap (λ x. not (is_some x) && all_differ (λ i. same_input s.0 i || is_some (place_at old i)) later) none) ∙ h)

pub differ_found : (index : CategoryIndex) (s : Stop) (later all : List Stop) (place : ℕ) → place_at index s.0 ≡ Some place → DiffersWith index (s ∷ later) all → all_differ (λ i. false) all ≡ false
differ_found index s later all place found h =
    sym h ∙ ap (λ x. not (is_some x) && all_differ (λ i. same_input s.0 i || is_some (place_at index i)) later) found

-- equal inputs have one place
same_flags : (index : CategoryIndex) (b c : Bool) → same_flag b c ≡ true → flag_place index b ≡ None → flag_place index c ≡ None
same_flags index true true e none = none
same_flags index false false e none = none
same_flags index true false e none = absurd (false≢true e)
same_flags index false true e none = absurd (false≢true e)

same_none : (index : CategoryIndex) (i j : Input) → same_input i j ≡ true → place_at index i ≡ None → place_at index j ≡ None
same_none index (flag b) (flag c) e none = same_flags index b c e none
same_none index (number m) (number n) e none = subst (λ z. get int_cmp index.numbers z ≡ None) ((Decides-int_eq m.value n.value).0 e) none
same_none index (word s) (word t) e none = subst (λ u. text_place index.texts u ≡ None) ((bytes_eq-Decides s t).0 e) none
same_none index (flag b) (number n) e none = absurd (false≢true e)
same_none index (flag b) (word t) e none = absurd (false≢true e)
same_none index (number m) (flag c) e none = absurd (false≢true e)
same_none index (number m) (word t) e none = absurd (false≢true e)
same_none index (word s) (flag c) e none = absurd (false≢true e)
same_none index (word s) (number n) e none = absurd (false≢true e)

turned : (b : Bool) (place : ℕ) (old later : Option ℕ) → (b ≡ true → old ≡ None) → option_or (if b then Some place else old) later ≡ option_or old (if b then Some place else later)
turned true place old later none = sym (ap (λ x. option_or x (Some place)) (none refl))
turned false place old later none = refl

pub index_more : (new old : CategoryIndex) (k : ℕ) (s : Stop) (later all : List Stop) → NotesInput s.0 k old new → place_at old s.0 ≡ None → IsIndexWith old k (s ∷ later) all → IsIndexWith new (k + 1) later all
index_more new old k s later all noted none h i =
    ap (λ x. option_or x (listed_place (k + 1) later i)) (noted i)
    ∙ (turned (same_input s.0 i) k (place_at old i) (listed_place (k + 1) later i) (λ e. same_none old s.0 i e none) ∙ h i)

pub not_some : (x : Option ℕ) → is_some x ≡ false → x ≡ None
not_some (Some k) h = absurd (cc)
not_some None h = refl

pub next_stop : (stops : List Category) (i : ℕ) (s : Category) → i < length stops → s ≡ get_or stops i s → map category_seen (drop i stops) ≡ category_seen s ∷ map category_seen (drop (i + 1) stops)
next_stop stops i s h is = ap (map category_seen) (drop-cons stops i s h ∙ (ap (λ x. x ∷ drop (suc i) stops) (sym is) ∙ ap (λ k. s ∷ drop k stops) (sym (add-one i))))

or_none : (x : Option ℕ) → option_or x None ≡ x
or_none (Some k) = refl
or_none None = refl

pub index_whole : (index : CategoryIndex) (k : ℕ) (all : List Stop) → IsIndexWith index k [] all → (i : Input) → place_at index i ≡ listed_place 0 all i
index_whole index k all h i = sym (or_none (place_at index i)) ∙ h i

-- ---- what a value finds

-- the input that a value is equal to
abbrev Asks : Data → Input → Type 0
Asks d i = (j : Input) → is_input d j ≡ same_input j i

flags_ask : (b : Bool) → Asks (boolean b) (flag b)
flags_ask b (flag c) = refl
flags_ask b (number n) = refl
flags_ask b (word s) = refl

numbers_ask : (z : ℤ) → Asks (number_data z) (number (record { spelled = []; value = z }))
numbers_ask z (flag c) = refl
numbers_ask z (number n) = refl
numbers_ask z (word s) = refl

texts_ask : (t : List ℕ) → Asks (text t) (word t)
texts_ask t (flag c) = refl
texts_ask t (number n) = refl
texts_ask t (word s) = refl

-- what is known of the first place, where places are counted from this one
abbrev pub FindsFirst : List Category → Data → ℕ → Option ℕ → Type 0
FindsFirst cs d k (Some p) = (k ≤ p) × (p < k + length cs) × ((c : Category) → chosen_output d (map category_seen cs) ≡ Some (output_seen (get_or cs (p - k) c).output))
FindsFirst cs d k None = chosen_output d (map category_seen cs) ≡ None

first_if : (c : Category) (cs : List Category) (d : Data) (k : ℕ) (b : Bool) → is_input d (input_seen c.input) ≡ b → (later : Option ℕ) → FindsFirst cs d (k + 1) later → FindsFirst (c ∷ cs) d k (if b then Some k else later)
first_if c cs d k true e later h = (omega arith, omega arith, λ x. ap (λ b. if b then Some (output_seen c.output) else chosen_output d (map category_seen cs)) e ∙ here x)
  where
    here : (x : Category) → Some (output_seen c.output) ≡ Some (output_seen (get_or (c ∷ cs) (k - k) x).output)
    here x = let none : 0 ≡ k - k = omega arith in ap (λ n. Some (output_seen (get_or (c ∷ cs) n x).output)) none
first_if c cs d k false e (Some p) h = (omega (arith, h.0), omega (arith, h.1), λ x. ap (λ b. if b then Some (output_seen c.output) else chosen_output d (map category_seen cs)) e ∙ (h.2 x ∙ later x))
  where
    later : (x : Category) → Some (output_seen (get_or cs (p - (k + 1)) x).output) ≡ Some (output_seen (get_or (c ∷ cs) (p - k) x).output)
    later x = let one : suc (p - (k + 1)) ≡ p - k = omega (arith, h.0) in ap (λ n. Some (output_seen (get_or (c ∷ cs) n x).output)) one
first_if c cs d k false e None h = ap (λ b. if b then Some (output_seen c.output) else chosen_output d (map category_seen cs)) e ∙ h

first_place : (cs : List Category) (d : Data) (i : Input) (k : ℕ) → Asks d i → FindsFirst cs d k (listed_place k (map category_seen cs) i)
first_place [] d i k asks = refl
first_place (c ∷ cs) d i k asks = first_if c cs d k (same_input (input_seen c.input) i) (asks (input_seen c.input)) (listed_place (k + 1) (map category_seen cs) i) (first_place cs d i (k + 1) asks)

-- a value that is no boolean, number or text is equal to no input
none_chosen : (cs : List Category) (d : Data) → ((i : Input) → is_input d i ≡ false) → chosen_output d (map category_seen cs) ≡ None
none_chosen [] d none = refl
none_chosen (c ∷ cs) d none = ap (λ b. if b then Some (output_seen c.output) else chosen_output d (map category_seen cs)) (none (input_seen c.input)) ∙ none_chosen cs d none

pub finds_first : (index : CategoryIndex) (cs : List Category) (d : Data) → IsIndexOf index cs → FindsFirst cs d 0 (value_place index d)
finds_first index cs (boolean b) whole = subst (FindsFirst cs (boolean b) 0) (sym (whole (flag b))) (first_place cs (boolean b) (flag b) 0 (flags_ask b))
finds_first index cs (number_data z) whole =
    subst (FindsFirst cs (number_data z) 0) (sym (whole (number (record { spelled = []; value = z })))) (first_place cs (number_data z) (number (record { spelled = []; value = z })) 0 (numbers_ask z))
finds_first index cs (text t) whole = subst (FindsFirst cs (text t) 0) (sym (whole (word t))) (first_place cs (text t) (word t) 0 (texts_ask t))
finds_first index cs null whole = none_chosen cs null no
  where
    no : (i : Input) → is_input null i ≡ false
    no (flag b) = refl
    no (number n) = refl
    no (word s) = refl
finds_first index cs (color c) whole = none_chosen cs (color c) no
  where
    no : (i : Input) → is_input (color c) i ≡ false
    no (flag b) = refl
    no (number n) = refl
    no (word s) = refl
finds_first index cs (list ds) whole = none_chosen cs (list ds) no
  where
    no : (i : Input) → is_input (list ds) i ≡ false
    no (flag b) = refl
    no (number n) = refl
    no (word s) = refl
finds_first index cs (mapping ps) whole = none_chosen cs (mapping ps) no
  where
    no : (i : Input) → is_input (mapping ps) i ≡ false
    no (flag b) = refl
    no (number n) = refl
    no (word s) = refl

pub ruleset index_rules = (differ_first, index_first, differ_found, index_whole)
