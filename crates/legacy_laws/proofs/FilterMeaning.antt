-- What the terms of legacy filters mean: a lemma for each form of test, and then by the form of the filter.
use Rattle.std.proofs.Common.{◌≡◌, ◌∙◌, ℕ, suc, ◌+◌, ℤ, List, [], ◌∷◌, length, refl, ap, true, false}
use Rattle.std.proofs.Math.Dec.{leb-zero}
use Rattle.std.specs.Prelude.{Bool, not, ◌&&◌, ◌||◌, codes, map, Option, Some, None, is_some, option_map, unwrap_or, Ok, if◌then◌else◌}
use Rattle.std.specs.List.{list_all, list_any}
use Rattle.std.specs.Cmp.Lexicographic.{slice_cmp}
use Rattle.std.specs.Ordering.{nat_cmp, int_cmp}
use Rattle.std.specs.Str.{chars}
use Rattle.std.specs.declared.cmp.Ordering.{Ordering}
use Rattle.std.specs.declared.cmp.Ordering.TheVariants.{Less, Equal as Same, Greater}
use Rattle.prop_values.specs.Data.{Data, null, boolean, number, text, color, list, map as map_of, items_of, list_of}
use Rattle.prop_values.specs.Equality.{equal, same_text}
use Rattle.prop_values.specs.Forms.{order_of, kind_name}
use Rattle.prop_values.specs.declared.kinds.Want.{Want}
use Rattle.prop_values.specs.declared.kinds.Want.TheVariants as wants
use Rattle.property_tables.specs.Fitting.{fit}
use Rattle.tile_reader.specs.declared.tile.Feature.{Feature}
use Rattle.expr_syntax.specs.declared.expression.Operator.TheVariants as operators
use Rattle.expr_syntax.specs.Term.{Term, literal, node, terms_of}
use Rattle.operator_values.specs.Comparisons.{equal_of, different_of, ordered_of, is_less, is_less_or_equal}
use Rattle.operator_values.specs.Comparisons.{is_greater, is_greater_or_equal}
use Rattle.operator_values.specs.Conversions.{kind_of, negation_of}
use Rattle.operator_values.specs.Evaluated.{Evaluated, then_value}
use Rattle.operator_values.specs.Sequences.{in_of, first_equal}
use Rattle.eval_face.specs.Decisions.{if_false, if_true, or_later, first_of}
use Rattle.eval_face.specs.Lookups.{id_value}
use Rattle.eval_face.specs.Meaning.{mean, means}
use Rattle.eval_face.specs.Meanings.{Meaning, and_values, then_values}
use Rattle.eval_face.specs.World.{World, feature_world}
use Rattle.legacy_filters.specs.declared.filter.Group.TheVariants as groups
use Rattle.legacy_filters.specs.declared.filter.Key.{Key}
use Rattle.legacy_filters.specs.declared.filter.Key.TheVariants.{Shape as ShapeKey, Id, Property}
use Rattle.legacy_filters.specs.declared.filter.Order.{Order}
use Rattle.legacy_filters.specs.declared.filter.Order.TheVariants.{Below, AtMost, Above, AtLeast}
use Rattle.legacy_filters.specs.declared.scalars.Scalar.{Scalar}
use Rattle.legacy_filters.specs.declared.scalars.Scalar.TheVariants.{Flag, Number, Text}
use Rattle.legacy_filters.specs.declared.filter.Test.{Test}
use Rattle.legacy_filters.specs.declared.filter.Test.TheVariants.{Has, HasNot, Equal, NotEqual, Ordered, Among, NotAmong}
use Rattle.legacy_filters.specs.Filter.{Filter, flag, test, group, Filters, no_filters, filter}
use Rattle.legacy_filters.specs.Meaning.{id_number, value_at, is_there_and, takes, takes_order}
use Rattle.legacy_filters.specs.Meaning.{is_ordered, holds, passes, each_passes}
use Rattle.legacy_filters.specs.Scalars.{scalar_data, is_equal, is_one_of}
use Rattle.legacy_laws.proofs.FilterTerms.{one_term, two_terms, value_term, has_term, order_operator, kind_term}
use Rattle.legacy_laws.proofs.FilterTerms.{guarded_term, order_term, among_term, test_term, filter_term, filter_terms}

-- a truth value that is given
abbrev verdict : Bool → Evaluated
verdict b = Ok (boolean b)

-- ---- the value of a key, which is null where it is missing

abbrev or_null : Option Data → Data
or_null found = unwrap_or found null

-- a missing value is equal to nothing, ordered with nothing and among nothing
equal_or_null : (v : Scalar) (found : Option Data)
    → equal (or_null found) (scalar_data v) ≡ is_there_and (is_equal v) found
equal_or_null v (Some d) = refl
equal_or_null (Flag b) None = refl
equal_or_null (Number n z) None = refl
equal_or_null (Text s) None = refl

ordered_or_null : (order : Order) (v : Scalar) (found : Option Data)
    → takes_order order (order_of (or_null found) (scalar_data v)) ≡ is_there_and (is_ordered order v) found
ordered_or_null order v (Some d) = refl
ordered_or_null order v None = refl

null_is_none : (vs : List Scalar) → is_one_of vs null ≡ false
null_is_none [] = refl
null_is_none (Flag b ∷ vs) = null_is_none vs
null_is_none (Number n z ∷ vs) = null_is_none vs
null_is_none (Text s ∷ vs) = null_is_none vs

among_or_null : (vs : List Scalar) (found : Option Data)
    → is_one_of vs (or_null found) ≡ is_there_and (is_one_of vs) found
among_or_null vs (Some d) = refl
among_or_null vs None = null_is_none vs

-- ---- orders

abbrev accepts : Order → Ordering → Bool
accepts Below = is_less
accepts AtMost = is_less_or_equal
accepts Above = is_greater
accepts AtLeast = is_greater_or_equal

accepts_as : (order : Order) (o : Ordering) → accepts order o ≡ takes order o
accepts_as Below Less = refl
accepts_as Below Same = refl
accepts_as Below Greater = refl
accepts_as AtMost Less = refl
accepts_as AtMost Same = refl
accepts_as AtMost Greater = refl
accepts_as Above Less = refl
accepts_as Above Same = refl
accepts_as Above Greater = refl
accepts_as AtLeast Less = refl
accepts_as AtLeast Same = refl
accepts_as AtLeast Greater = refl

-- `all` of two, of which the second is asked only where the first is not false
abbrev unless_false : Evaluated → Evaluated → Evaluated
unless_false first later = then_value first (λ d. or_later (if_false d) later)

abbrev both : Evaluated → Evaluated → Evaluated
both first second = then_value (unless_false first (unless_false second (verdict true))) (fit wants.Boolean)

both_of_true : (b : Bool) → both (verdict true) (verdict b) ≡ verdict b
both_of_true true = refl
both_of_true false = refl

-- what the order says of two values, under Boolean
abbrev order_verdict : Order → Data → Data → Evaluated
order_verdict order d e = then_value (ordered_of (accepts order) (d ∷ e ∷ [])) (fit wants.Boolean)

abbrev guarded : Order → List ℕ → Data → Data → Evaluated
guarded order kind d e = both (verdict (same_text (kind_name d) kind)) (order_verdict order d e)

order_taken : (order : Order) (o : Ordering)
    → both (verdict true) (verdict (accepts order o)) ≡ verdict (takes order o)
order_taken order o = both_of_true (accepts order o) ∙ ap verdict (accepts_as order o)

guarded_number : (order : Order) (d : Data) (z : ℤ)
    → guarded order (codes "number") d (number z) ≡ verdict (takes_order order (order_of d (number z)))
guarded_number order null z = refl
guarded_number order (boolean b) z = refl
guarded_number order (number a) z = order_taken order (int_cmp a z)
guarded_number order (text s) z = refl
guarded_number order (color c) z = refl
guarded_number order (list ds) z = refl
guarded_number order (map_of ps) z = refl

guarded_text : (order : Order) (d : Data) (s : List ℕ)
    → guarded order (codes "string") d (text s) ≡ verdict (takes_order order (order_of d (text s)))
guarded_text order null s = refl
guarded_text order (boolean b) s = refl
guarded_text order (number a) s = refl
guarded_text order (text r) s = order_taken order (slice_cmp nat_cmp (chars r) (chars s))
guarded_text order (color c) s = refl
guarded_text order (list ds) s = refl
guarded_text order (map_of ps) s = refl

-- nothing is ordered with a boolean
unordered : (order : Order) (b : Bool) (found : Option Data)
    → false ≡ is_there_and (is_ordered order (Flag b)) found
unordered order b None = refl
unordered order b (Some null) = refl
unordered order b (Some (boolean c)) = refl
unordered order b (Some (number a)) = refl
unordered order b (Some (text r)) = refl
unordered order b (Some (color c)) = refl
unordered order b (Some (list ds)) = refl
unordered order b (Some (map_of ps)) = refl

-- ---- a value among others

some_after : (f : ℕ → ℕ) (o : Option ℕ) → is_some (option_map f o) ≡ is_some o
some_after f (Some place) = refl
some_after f None = refl

found_or : (b : Bool) (o : Option ℕ) (c : Bool) → is_some o ≡ c
    → is_some (if b then Some 0 else option_map suc o) ≡ (b || c)
found_or true o c h = refl
found_or false o c h = some_after suc o ∙ h

abbrev scalar_list : List Scalar → Data
scalar_list vs = list (items_of (map scalar_data vs))

abbrev scalar_items : List Scalar → List Data
scalar_items vs = list_of (items_of (map scalar_data vs))

first_among : (d : Data) (vs : List Scalar) → is_some (first_equal d (scalar_items vs)) ≡ is_one_of vs d
first_among d [] = refl
first_among d (v ∷ vs) =
    found_or (equal d (scalar_data v)) (first_equal d (scalar_items vs)) (is_one_of vs d) (first_among d vs)

-- where the search begins at the first item
abbrev from_first : Bool → Data → List Data → Option ℕ
from_first b d ds = if b then option_map (λ place. 0 + place) (first_equal d ds) else None

in_scalars : (d : Data) (vs : List Scalar) → in_of (d ∷ scalar_list vs ∷ []) ≡ verdict (is_one_of vs d)
in_scalars d vs =
    let found = first_equal d (scalar_items vs) in
    ap (λ b. verdict (is_some (from_first b d (scalar_items vs)))) (leb-zero (length (scalar_items vs)))
    ∙ ap verdict (some_after (λ place. 0 + place) found ∙ first_among d vs)

-- ---- what a feature has, and parts of groups

id_or_null : (id : Option ℕ) → id_value id ≡ or_null (option_map id_number id)
id_or_null (Some n) = refl
id_or_null None = refl

id_is_there : (id : Option ℕ) → not (equal (id_value id) null) ≡ is_some (option_map id_number id)
id_is_there (Some n) = refl
id_is_there None = refl

abbrev unless_true : Evaluated → Evaluated → Evaluated
unless_true first later = then_value first (λ d. or_later (if_true d) later)

and_later : (b : Bool) (later : Evaluated) (c : Bool) → later ≡ verdict c
    → unless_false (verdict b) later ≡ verdict (b && c)
and_later true later c h = h
and_later false later c h = refl

or_else : (b : Bool) (later : Evaluated) (c : Bool) → later ≡ verdict c
    → unless_true (verdict b) later ≡ verdict (b || c)
or_else true later c h = refl
or_else false later c h = h

-- ---- in a world

module _ (zoom : ℤ) (feature : Feature) (state : List (List ℕ × Data)) (images scripts : List ℕ → Bool) where
  abbrev here : World
  here = feature_world zoom feature state images scripts

  -- what a term gives under Boolean
  abbrev given : Term → Evaluated
  given e = mean e wants.Boolean [] here

  abbrev found_at : Key → Option Data
  found_at key = value_at key feature

  -- the value of a key, or null
  abbrev value_here : Key → Data
  value_here key = or_null (found_at key)

  value_given : (key : Key) → mean (value_term key) wants.Any [] here ≡ Ok (value_here key)
  value_given ShapeKey = refl
  value_given Id = ap Ok (id_or_null feature.id)
  value_given (Property name) = refl

  has_given : (key : Key) → given (has_term key) ≡ verdict (is_some (found_at key))
  has_given ShapeKey = refl
  has_given Id = ap verdict (id_is_there feature.id)
  has_given (Property name) = refl

  -- an operator of one value, or of two, whose values are known
  abbrev from_one : (List Data → Evaluated) → Want → Evaluated → Evaluated
  from_one apply want a = then_values (and_values a (Ok [])) (λ ds. then_value (apply ds) (fit want))

  abbrev from_two : (List Data → Evaluated) → Data → Evaluated → Evaluated
  from_two apply e a =
      then_values (and_values a (Ok (e ∷ []))) (λ ds. then_value (apply ds) (fit wants.Boolean))

  not_given : (e : Term) (b : Bool) → given e ≡ verdict b → given (one_term operators.Not e) ≡ verdict (not b)
  not_given e b h = λ i. from_one negation_of wants.Boolean (h i)

  equal_given : (key : Key) (v : Scalar)
      → given (two_terms operators.Equal (value_term key) (literal (scalar_data v)))
      ≡ verdict (is_there_and (is_equal v) (found_at key))
  equal_given key v =
      (λ i. from_two equal_of (scalar_data v) (value_given key i))
      ∙ ap verdict (equal_or_null v (found_at key))

  different_given : (key : Key) (v : Scalar)
      → given (two_terms operators.NotEqual (value_term key) (literal (scalar_data v)))
      ≡ verdict (not (is_there_and (is_equal v) (found_at key)))
  different_given key v =
      (λ i. from_two different_of (scalar_data v) (value_given key i))
      ∙ ap (λ b. verdict (not b)) (equal_or_null v (found_at key))

  kind_given : (key : Key) (kind : List ℕ)
      → given (kind_term kind (value_term key)) ≡ verdict (same_text (kind_name (value_here key)) kind)
  kind_given key kind = λ i. from_two equal_of (text kind) (from_one kind_of wants.Any (value_given key i))

  compared_given : (order : Order) (key : Key) (e : Data)
      → given (two_terms (order_operator order) (value_term key) (literal e))
      ≡ order_verdict order (value_here key) e
  compared_given Below key e = λ i. from_two (ordered_of is_less) e (value_given key i)
  compared_given AtMost key e = λ i. from_two (ordered_of is_less_or_equal) e (value_given key i)
  compared_given Above key e = λ i. from_two (ordered_of is_greater) e (value_given key i)
  compared_given AtLeast key e = λ i. from_two (ordered_of is_greater_or_equal) e (value_given key i)

  guarded_given : (order : Order) (kind : List ℕ) (key : Key) (e : Data)
      → given (guarded_term order kind (value_term key) e) ≡ guarded order kind (value_here key) e
  guarded_given order kind key e = λ i. both (kind_given key kind i) (compared_given order key e i)

  ordered_given : (order : Order) (key : Key) (v : Scalar)
      → given (order_term order key v) ≡ verdict (is_there_and (is_ordered order v) (found_at key))
  ordered_given order key (Flag b) = ap verdict (unordered order b (found_at key))
  ordered_given order key (Number n z) =
      guarded_given order (codes "number") key (number z)
      ∙ (guarded_number order (value_here key) z
      ∙ ap verdict (ordered_or_null order (Number n z) (found_at key)))
  ordered_given order key (Text s) =
      guarded_given order (codes "string") key (text s)
      ∙ (guarded_text order (value_here key) s
      ∙ ap verdict (ordered_or_null order (Text s) (found_at key)))

  among_given : (key : Key) (vs : List Scalar)
      → given (among_term key vs) ≡ verdict (is_there_and (is_one_of vs) (found_at key))
  among_given key vs =
      (λ i. from_two in_of (scalar_list vs) (value_given key i))
      ∙ ((λ i. then_value (in_scalars (value_here key) vs i) (fit wants.Boolean))
      ∙ ap verdict (among_or_null vs (found_at key)))

  test_given : (key : Key) (t : Test) → given (test_term key t) ≡ verdict (holds t (found_at key))
  test_given key Has = has_given key
  test_given key HasNot = not_given (has_term key) (is_some (found_at key)) (has_given key)
  test_given key (Equal v) = equal_given key v
  test_given key (NotEqual v) = different_given key v
  test_given key (Ordered order v) = ordered_given order key v
  test_given key (Among vs) = among_given key vs
  test_given key (NotAmong vs) =
      not_given (among_term key vs) (is_there_and (is_one_of vs) (found_at key)) (among_given key vs)

  -- ---- groups: what the parts from place k on decide, among m

  abbrev part_means : Filters → List Meaning
  part_means fs = means (terms_of (filter_terms fs))

  abbrev all_from : Filters → ℕ → ℕ → Evaluated
  all_from fs m k = first_of if_false (verdict true) operators.All m k (part_means fs) wants.Boolean [] here

  abbrev any_from : Filters → ℕ → ℕ → Evaluated
  any_from fs m k = first_of if_true (verdict false) operators.Any m k (part_means fs) wants.Boolean [] here

  abbrev all_pass : Filters → Bool
  all_pass fs = list_all (λ b. b) (each_passes fs feature)

  abbrev any_passes : Filters → Bool
  any_passes fs = list_any (λ b. b) (each_passes fs feature)

  any_node_given : (fs : Filters) → any_from fs (length (part_means fs)) 0 ≡ verdict (any_passes fs)
      → given (node operators.Any (terms_of (filter_terms fs))) ≡ verdict (any_passes fs)
  any_node_given fs h = λ i. then_value (h i) (fit wants.Boolean)

  mutual
    pub filter_given : (f : Filter) → given (filter_term f) ≡ verdict (passes f feature)
    filter_given (flag b) = refl
    filter_given (test key t) = test_given key t
    filter_given (group groups.All fs) =
        λ i. then_value (all_given fs (length (part_means fs)) 0 i) (fit wants.Boolean)
    filter_given (group groups.Any fs) = any_node_given fs (any_given fs (length (part_means fs)) 0)
    filter_given (group groups.None fs) =
        not_given (node operators.Any (terms_of (filter_terms fs))) (any_passes fs)
        (any_node_given fs (any_given fs (length (part_means fs)) 0))

    all_given : (fs : Filters) (m k : ℕ) → all_from fs m k ≡ verdict (all_pass fs)
    all_given no_filters m k = refl
    all_given (filter f fs) m k =
        let later = all_from fs m (k + 1) in
        (λ i. unless_false (filter_given f i) later)
        ∙ and_later (passes f feature) later (all_pass fs) (all_given fs m (k + 1))

    any_given : (fs : Filters) (m k : ℕ) → any_from fs m k ≡ verdict (any_passes fs)
    any_given no_filters m k = refl
    any_given (filter f fs) m k =
        let later = any_from fs m (k + 1) in
        (λ i. unless_true (filter_given f i) later)
        ∙ or_else (passes f feature) later (any_passes fs) (any_given fs m (k + 1))
