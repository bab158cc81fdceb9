-- The expression of a filter that was read is no legacy filter.
use Rattle.std.proofs.Common.{◌≡◌, ℕ, ◌+◌, List, [], ◌∷◌, ◌++◌, refl, ap, subst, true, false}
use Rattle.std.specs.Prelude.{Bool, not, ◌&&◌, ◌||◌, codes, Option, Some, None, option_map, Result, Ok, Err, nat_lt, if◌then◌else◌}
use Rattle.std.specs.Str.{bytes_eq}
use Rattle.decimal_json.specs.Accessors.{is_text}
use Rattle.decimal_json.specs.Tree.{Tree, null, boolean, number, text, list, object, Trees, no_trees, tree, trees_of}
use Rattle.decimal_json.specs.declared.paths.PathPart.{PathPart}
use Rattle.decimal_json.specs.declared.paths.PathPart.TheVariants.{Index}
use Rattle.legacy_filters.specs.declared.filter.FilterFault.{FilterFault}
use Rattle.legacy_filters.specs.declared.filter.Group.{Group}
use Rattle.legacy_filters.specs.declared.filter.Group.TheVariants as groups
use Rattle.legacy_filters.specs.declared.filter.Key.{Key}
use Rattle.legacy_filters.specs.declared.filter.Key.TheVariants.{Shape, Id, Property}
use Rattle.legacy_filters.specs.declared.filter.Order.{Order}
use Rattle.legacy_filters.specs.declared.filter.Order.TheVariants.{Below, AtMost, Above, AtLeast}
use Rattle.legacy_filters.specs.declared.scalars.Scalar.TheVariants.{Flag, Number, Text}
use Rattle.legacy_filters.specs.declared.filter.Test.{Test}
use Rattle.legacy_filters.specs.declared.filter.Test.TheVariants.{Has, HasNot, Equal, NotEqual, Ordered, Among, NotAmong}
use Rattle.legacy_filters.specs.Split.{is_array, is_named, is_legacy, some_legacy}
use Rattle.legacy_filters.specs.Filter.{Filter, flag, test, group, Filters, no_filters, filter}
use Rattle.legacy_filters.specs.Form.{FilterRead, FilterReader, ill_formed, key_named, keyed_form, test_form, or_ill_formed, group_named, and_filter, parts_form, grouped, most_open, unless_group, form, array_form, forms}
use Rattle.legacy_filters.specs.ToExpression.{call, value_expression, scalar_tree, order_name, kind_and_order, test_expression, expression, expressions}
use Rattle.legacy_filters.specs.Laws.{NoExpressionIsLegacy}

-- ---- the two names that are no property's are the keys of none

abbrev IsProperKey : Key → Type 0
IsProperKey Shape = Unit {0}
IsProperKey Id = Unit {0}
IsProperKey (Property name) = is_named name (codes "$id" ∷ codes "$type" ∷ []) ≡ false

abbrev mutual
  IsProper : Filter → Type 0
  IsProper (flag b) = Unit {0}
  IsProper (test key t) = IsProperKey key
  IsProper (group g fs) = AreProper fs

  AreProper : Filters → Type 0
  AreProper no_filters = Unit {0}
  AreProper (filter f fs) = IsProper f × AreProper fs

-- ---- expressions of such filters

value_is_array : (key : Key) → is_array (value_expression key) ≡ true
value_is_array Shape = refl
value_is_array Id = refl
value_is_array (Property name) = refl

value_is_no_text : (key : Key) → is_text (value_expression key) ≡ false
value_is_no_text Shape = refl
value_is_no_text Id = refl
value_is_no_text (Property name) = refl

order_is_expression : (order : Order) (value v : Tree) → is_array value ≡ true → is_legacy (call (order_name order) (value ∷ v ∷ [])) ≡ false
order_is_expression Below value v h = ap (λ b. not b && not (is_array v)) h
order_is_expression AtMost value v h = ap (λ b. not b && not (is_array v)) h
order_is_expression Above value v h = ap (λ b. not b && not (is_array v)) h
order_is_expression AtLeast value v h = ap (λ b. not b && not (is_array v)) h

kind_and_order_is_expression : (order : Order) (kind : List ℕ) (value v : Tree) → is_array value ≡ true → is_legacy (kind_and_order order kind value v) ≡ false
kind_and_order_is_expression order kind value v h = ap (λ b. b || false) (order_is_expression order value v h)

test_is_expression : (key : Key) (t : Test) → IsProperKey key → is_legacy (test_expression key t) ≡ false
test_is_expression Shape Has h = refl
test_is_expression Id Has h = refl
test_is_expression (Property name) Has h = h
test_is_expression key HasNot h = refl
test_is_expression key (Equal v) h = ap (λ b. not b && not (is_array (scalar_tree v))) (value_is_array key)
test_is_expression key (NotEqual v) h = ap (λ b. not b && not (is_array (scalar_tree v))) (value_is_array key)
test_is_expression key (Ordered order (Flag b)) h = refl
test_is_expression key (Ordered order (Number n z)) h = kind_and_order_is_expression order (codes "number") (value_expression key) (number n) (value_is_array key)
test_is_expression key (Ordered order (Text s)) h = kind_and_order_is_expression order (codes "string") (value_expression key) (text s) (value_is_array key)
test_is_expression key (Among vs) h = ap (λ b. b && false) (value_is_no_text key)
test_is_expression key (NotAmong vs) h = refl

mutual
  filter_is_expression : (f : Filter) → IsProper f → is_legacy (expression f) ≡ false
  filter_is_expression (flag b) h = refl
  filter_is_expression (test key t) h = test_is_expression key t h
  filter_is_expression (group groups.All fs) h = filters_are_expressions fs h
  filter_is_expression (group groups.Any fs) h = filters_are_expressions fs h
  filter_is_expression (group groups.None fs) h = refl

  filters_are_expressions : (fs : Filters) → AreProper fs → some_legacy (trees_of (expressions fs)) ≡ false
  filters_are_expressions no_filters h = refl
  filters_are_expressions (filter f fs) h = λ i. filter_is_expression f h.0 i || filters_are_expressions fs h.1 i

-- ---- filters that were read are such filters

abbrev ReadsProper : FilterRead → Type 0
ReadsProper (Ok f) = IsProper f
ReadsProper (Err fault) = Unit {0}

abbrev ReadProper : Result Filters FilterFault → Type 0
ReadProper (Ok fs) = AreProper fs
ReadProper (Err fault) = Unit {0}

abbrev GivesProper : FilterReader → Type 0
GivesProper r = (count : ℕ) (path : List PathPart) → ReadsProper (r count path)

abbrev GiveProper : List FilterReader → Type 0
GiveProper [] = Unit {0}
GiveProper (r ∷ rs) = GivesProper r × GiveProper rs

key_by_tests : (a b : Bool) (name : List ℕ) → is_named name (codes "$id" ∷ codes "$type" ∷ []) ≡ (b || (a || false)) → IsProperKey (if a then Shape else if b then Id else Property name)
key_by_tests true b name h = tt
key_by_tests false true name h = tt
key_by_tests false false name h = h

named_key_is_proper : (name : List ℕ) → IsProperKey (key_named name)
named_key_is_proper name = key_by_tests (bytes_eq name (codes "$type")) (bytes_eq name (codes "$id")) name refl

tested_is_proper : (key : Key) (t : Option Test) (path : List PathPart) → IsProperKey key → ReadsProper (or_ill_formed (option_map (test key) t) path)
tested_is_proper key (Some t) path h = h
tested_is_proper key None path h = tt

keyed_is_proper : (name : List ℕ) (ts : Trees) (path : List PathPart) → ReadsProper (or_ill_formed (keyed_form name ts) path)
keyed_is_proper name no_trees path = tt
keyed_is_proper name (tree null ts) path = tt
keyed_is_proper name (tree (boolean b) ts) path = tt
keyed_is_proper name (tree (number n) ts) path = tt
keyed_is_proper name (tree (text key) ts) path = tested_is_proper (key_named key) (test_form name (key_named key) ts) path (named_key_is_proper key)
keyed_is_proper name (tree (list us) ts) path = tt
keyed_is_proper name (tree (object fs) ts) path = tt

and_is_proper : (r : FilterRead) (later : Result Filters FilterFault) → ReadsProper r → ReadProper later → ReadProper (and_filter r later)
and_is_proper (Ok f) (Ok fs) h k = (h, k)
and_is_proper (Ok f) (Err fault) h k = tt
and_is_proper (Err fault) later h k = tt

parts_are_proper : (i : ℕ) (rs : List FilterReader) (count : ℕ) (path : List PathPart) → GiveProper rs → ReadProper (parts_form i rs count path)
parts_are_proper i [] count path h = tt
parts_are_proper i (r ∷ rs) count path h =
    and_is_proper (r count (path ++ Index i ∷ [])) (parts_form (i + 1) rs count path) (h.0 count (path ++ Index i ∷ [])) (parts_are_proper (i + 1) rs count path h.1)

grouped_is_proper : (g : Group) (r : Result Filters FilterFault) → ReadProper r → ReadsProper (grouped g r)
grouped_is_proper g (Ok fs) h = h
grouped_is_proper g (Err fault) h = tt

if_is_proper : (b : Bool) (r : FilterRead) (path : List PathPart) → ReadsProper r → ReadsProper (if b then r else ill_formed path)
if_is_proper true r path h = h
if_is_proper false r path h = tt

named_is_proper : (o : Option Group) (name : List ℕ) (ts : Trees) (rs : List FilterReader) (count : ℕ) (path : List PathPart) → GiveProper rs → ReadsProper (unless_group o name ts rs count path)
named_is_proper (Some g) name ts rs count path h =
    if_is_proper (nat_lt count most_open) (grouped g (parts_form 1 rs (count + 1) path)) path (grouped_is_proper g (parts_form 1 rs (count + 1) path) (parts_are_proper 1 rs (count + 1) path h))
named_is_proper None name ts rs count path h = keyed_is_proper name ts path

mutual
  form_is_proper : (t : Tree) → GivesProper (form t)
  form_is_proper null count path = tt
  form_is_proper (boolean b) count path = tt
  form_is_proper (number n) count path = tt
  form_is_proper (text s) count path = tt
  form_is_proper (list ts) count path = array_is_proper ts count path
  form_is_proper (object fs) count path = tt

  array_is_proper : (ts : Trees) → GivesProper (array_form ts)
  array_is_proper no_trees count path = tt
  array_is_proper (tree null ts) count path = tt
  array_is_proper (tree (boolean b) ts) count path = tt
  array_is_proper (tree (number n) ts) count path = tt
  array_is_proper (tree (text name) ts) count path = named_is_proper (group_named name) name ts (forms ts) count path (forms_are_proper ts)
  array_is_proper (tree (list us) ts) count path = tt
  array_is_proper (tree (object fs) ts) count path = tt

  forms_are_proper : (ts : Trees) → GiveProper (forms ts)
  forms_are_proper no_trees = tt
  forms_are_proper (tree t ts) = (form_is_proper t, forms_are_proper ts)

pub no_expression_is_legacy : NoExpressionIsLegacy
no_expression_is_legacy t f read = filter_is_expression f (subst ReadsProper read (form_is_proper t 0 []))
