-- A migrated filter is sound JSON where the filter is. Around it at most three arrays and objects are open.
-- Each of the at most 24 open groups makes at most two levels more, and a test at most four.
use Rattle.std.proofs.Common.{◌≡◌, ℕ, suc, ◌+◌, ◌*◌, ◌<◌, ◌≤◌, ℤ, List, [], ◌∷◌, ◌++◌, length, arith, refl}
use Rattle.std.proofs.Common.{true, false}
use Rattle.std.proofs.lemmas.Bool.{ltb-true}
use Rattle.migrated_trees.proofs.AsciiTexts.{ascii_is_utf8}
use Rattle.std.specs.Prelude.{Bool, IsTrue, IsUtf8, map, codes, Option, Some, None, option_map, Result, Ok}
use Rattle.std.specs.Prelude.{Err, nat_lt, if◌then◌else◌}
use Rattle.std.specs.Str.{bytes_eq}
use Rattle.json_tokens.specs.Number.{is_number}
use Rattle.fixed_num.specs.Decimal.{read_text}
use Rattle.fixed_num.specs.declared.decimal.NumFault.{NumFault}
use Rattle.decimal_json.specs.Sound.{IsSound, AreSound}
use Rattle.decimal_json.specs.Tree.{Tree, null, boolean, number, text, list, object, Trees, no_trees, tree, trees_of}
use Rattle.decimal_json.specs.declared.paths.PathPart.{PathPart}
use Rattle.decimal_json.specs.declared.paths.PathPart.TheVariants.{Index}
use Rattle.legacy_filters.specs.declared.filter.FilterFault.{FilterFault}
use Rattle.legacy_filters.specs.declared.filter.Group.{Group}
use Rattle.legacy_filters.specs.declared.filter.Group.TheVariants as groups
use Rattle.legacy_filters.specs.declared.filter.Key.{Key}
use Rattle.legacy_filters.specs.declared.filter.Key.TheVariants.{Shape, Id, Property}
use Rattle.legacy_filters.specs.declared.filter.Order.{Order}
use Rattle.legacy_filters.specs.declared.filter.Order.TheVariants.{Below, AtMost, Above, AtLeast}
use Rattle.legacy_filters.specs.declared.scalars.Scalar.{Scalar}
use Rattle.legacy_filters.specs.declared.scalars.Scalar.TheVariants.{Flag, Number, Text}
use Rattle.legacy_filters.specs.declared.filter.Test.{Test}
use Rattle.legacy_filters.specs.declared.filter.Test.TheVariants.{Has, HasNot, Equal, NotEqual, Ordered}
use Rattle.legacy_filters.specs.declared.filter.Test.TheVariants.{Among, NotAmong}
use Rattle.legacy_filters.specs.Split.{is_named, is_legacy}
use Rattle.legacy_filters.specs.Filter.{test, Filters}
use Rattle.legacy_filters.specs.Form.{FilterRead, FilterReader, ill_formed, key_named, shape_scalar, number_scalar}
use Rattle.legacy_filters.specs.Form.{plain_scalar}
use Rattle.legacy_filters.specs.Form.{scalar_form, alone, one_scalar, ordered_scalar, and_scalar}
use Rattle.legacy_filters.specs.Form.{scalars_form}
use Rattle.legacy_filters.specs.Form.{test_form, keyed_form, or_ill_formed, group_named, and_filter}
use Rattle.legacy_filters.specs.Form.{parts_form}
use Rattle.legacy_filters.specs.Form.{grouped, most_open, unless_group, form, array_form, forms, reading}
use Rattle.legacy_filters.specs.ToExpression.{value_expression, scalar_tree, has_expression, order_name}
use Rattle.legacy_filters.specs.ToExpression.{kind_and_order}
use Rattle.legacy_filters.specs.ToExpression.{order_expression, among_expression, test_expression}
use Rattle.legacy_filters.specs.ToExpression.{expression, expressions}
use Rattle.legacy_filters.specs.Migrated.{expression_or_itself, migrated_filter}

-- ---- keys and values whose texts and numbers are sound

abbrev IsSoundKey : Key → Type 0
IsSoundKey Shape = Unit {0}
IsSoundKey Id = Unit {0}
IsSoundKey (Property name) = IsUtf8 name

abbrev IsSoundScalar : Scalar → Type 0
IsSoundScalar (Flag b) = Unit {0}
IsSoundScalar (Number n z) = IsTrue (is_number n) × (length n ≤ 64)
IsSoundScalar (Text s) = IsUtf8 s

abbrev AreSoundScalars : List Scalar → Type 0
AreSoundScalars [] = Unit {0}
AreSoundScalars (v ∷ vs) = IsSoundScalar v × AreSoundScalars vs

abbrev IsSoundTest : Test → Type 0
IsSoundTest Has = Unit {0}
IsSoundTest HasNot = Unit {0}
IsSoundTest (Equal v) = IsSoundScalar v
IsSoundTest (NotEqual v) = IsSoundScalar v
IsSoundTest (Ordered order v) = IsSoundScalar v
IsSoundTest (Among vs) = AreSoundScalars vs
IsSoundTest (NotAmong vs) = AreSoundScalars vs

-- ---- expressions of tests

scalar_is_sound : (k : ℕ) (v : Scalar) → IsSoundScalar v → IsSound k (scalar_tree v)
scalar_is_sound k (Flag b) h = tt
scalar_is_sound k (Number n z) h = h
scalar_is_sound k (Text s) h = h

scalars_are_sound : (k : ℕ) (vs : List Scalar) → AreSoundScalars vs
    → AreSound k (trees_of (map scalar_tree vs))
scalars_are_sound k [] h = tt
scalars_are_sound k (v ∷ vs) h = (scalar_is_sound k v h.0, scalars_are_sound k vs h.1)

value_is_sound : (k : ℕ) (key : Key) → k < 64 → IsSoundKey key → IsSound k (value_expression key)
value_is_sound k Shape within h = (within, (ascii_is_utf8 (codes "geometry-type") refl, tt))
value_is_sound k Id within h = (within, (ascii_is_utf8 (codes "id") refl, tt))
value_is_sound k (Property name) within h = (within, (ascii_is_utf8 (codes "get") refl, (h, tt)))

has_is_sound : (k : ℕ) (key : Key) → k < 60 → IsSoundKey key → IsSound k (has_expression key)
has_is_sound k Shape within h = tt
has_is_sound k Id within h =
    (omega arith, (ascii_is_utf8 (codes "!=") refl, (value_is_sound (suc k) Id (omega arith) h, (tt, tt))))
has_is_sound k (Property name) within h = (omega arith, (ascii_is_utf8 (codes "has") refl, (h, tt)))

order_utf8 : (order : Order) → IsUtf8 (order_name order)
order_utf8 Below = ascii_is_utf8 (codes "<") refl
order_utf8 AtMost = ascii_is_utf8 (codes "<=") refl
order_utf8 Above = ascii_is_utf8 (codes ">") refl
order_utf8 AtLeast = ascii_is_utf8 (codes ">=") refl

kind_and_order_is_sound : (k : ℕ) (order : Order) (kind : List ℕ) (key : Key) (v : Tree) → k < 60
    → IsUtf8 kind → IsSoundKey key → IsSound (suc (suc k)) v
    → IsSound k (kind_and_order order kind (value_expression key) v)
kind_and_order_is_sound k order kind key v within kind_utf8 h sound =
    let one : suc k < 64 = omega arith in
    let two : suc (suc k) < 64 = omega arith in
    let value = value_is_sound (suc (suc k)) key two h in
    let inner = value_is_sound (suc (suc (suc k))) key (omega arith) h in (
      omega arith,
      (
        ascii_is_utf8 (codes "all") refl,
        (
          (
            one,
            (
              ascii_is_utf8 (codes "==") refl,
              ((two, (ascii_is_utf8 (codes "typeof") refl, (inner, tt))), (kind_utf8, tt)),
            ),
          ),
          ((one, (order_utf8 order, (value, (sound, tt)))), tt),
        ),
      ),
    )

order_is_sound : (k : ℕ) (order : Order) (key : Key) (v : Scalar) → k < 60 → IsSoundKey key → IsSoundScalar v
    → IsSound k (order_expression order key v)
order_is_sound k order key (Flag b) within h sound = tt
order_is_sound k order key (Number n z) within h sound =
    kind_and_order_is_sound k order (codes "number") key (number n) within
    (ascii_is_utf8 (codes "number") refl) h sound
order_is_sound k order key (Text s) within h sound =
    kind_and_order_is_sound k order (codes "string") key (text s) within
    (ascii_is_utf8 (codes "string") refl) h sound

among_is_sound : (k : ℕ) (key : Key) (vs : List Scalar) → k < 61 → IsSoundKey key → AreSoundScalars vs
    → IsSound k (among_expression key vs)
among_is_sound k key vs within h sound =
    let one : suc k < 64 = omega arith in
    let two : suc (suc k) < 64 = omega arith in
    let items = scalars_are_sound (suc (suc (suc k))) vs sound in (
      omega arith,
      (
        ascii_is_utf8 (codes "in") refl,
        (
          value_is_sound (suc k) key one h,
          ((one, (ascii_is_utf8 (codes "literal") refl, ((two, items), tt))), tt),
        ),
      ),
    )

negation_utf8 : IsUtf8 (codes "!")
negation_utf8 = ascii_is_utf8 (codes "!") refl

test_is_sound : (k : ℕ) (key : Key) (t : Test) → k < 59 → IsSoundKey key → IsSoundTest t
    → IsSound k (test_expression key t)
test_is_sound k key Has within h sound = has_is_sound k key (omega arith) h
test_is_sound k key HasNot within h sound =
    (omega arith, (negation_utf8, (has_is_sound (suc k) key (omega arith) h, tt)))
test_is_sound k key (Equal v) within h sound = (
  omega arith,
  (
    ascii_is_utf8 (codes "==") refl,
    (
      value_is_sound (suc k) key (omega arith) h,
      (scalar_is_sound (suc k) v sound, tt),
    ),
  ),
)
test_is_sound k key (NotEqual v) within h sound = (
  omega arith,
  (
    ascii_is_utf8 (codes "!=") refl,
    (
      value_is_sound (suc k) key (omega arith) h,
      (scalar_is_sound (suc k) v sound, tt),
    ),
  ),
)
test_is_sound k key (Ordered order v) within h sound = order_is_sound k order key v (omega arith) h sound
test_is_sound k key (Among vs) within h sound = among_is_sound k key vs (omega arith) h sound
test_is_sound k key (NotAmong vs) within h sound =
    (omega arith, (negation_utf8, (among_is_sound (suc k) key vs (omega arith) h sound, tt)))

-- ---- tests that were read of a sound filter

abbrev OfSome : {A : Type 0} → (A → Type 0) → Option A → Type 0
OfSome P (Some a) = P a
OfSome P None = Unit {0}

of_if : {A : Type 0} (P : A → Type 0) (b : Bool) (x y : Option A) → OfSome P x → OfSome P y
    → OfSome P (if b then x else y)
of_if P true x y h k = h
of_if P false x y h k = k

of_map : {A B : Type 0} (P : A → Type 0) (Q : B → Type 0) (make : A → B) (o : Option A)
    → ((a : A) → P a → Q (make a)) → OfSome P o → OfSome Q (option_map make o)
of_map P Q make (Some a) step h = step a h
of_map P Q make None step h = tt

key_by_tests : (a b : Bool) (name : List ℕ) → IsUtf8 name
    → IsSoundKey (if a then Shape else if b then Id else Property name)
key_by_tests true b name h = tt
key_by_tests false true name h = tt
key_by_tests false false name h = h

named_key_is_sound : (name : List ℕ) → IsUtf8 name → IsSoundKey (key_named name)
named_key_is_sound name h = key_by_tests (bytes_eq name (codes "$type")) (bytes_eq name (codes "$id")) name h

number_read_sound : (n : List ℕ) (r : Result ℤ NumFault) → IsTrue (is_number n) × (length n ≤ 64)
    → OfSome IsSoundScalar (number_scalar n r)
number_read_sound n (Ok z) h = h
number_read_sound n (Err past) h = tt

plain_read_sound : (j : ℕ) (t : Tree) → IsSound j t → OfSome IsSoundScalar (plain_scalar t)
plain_read_sound j null h = tt
plain_read_sound j (boolean b) h = tt
plain_read_sound j (number n) h = number_read_sound n (read_text n) h
plain_read_sound j (text s) h = h
plain_read_sound j (list ts) h = tt
plain_read_sound j (object fs) h = tt

shape_read_sound : (j : ℕ) (t : Tree) → IsSound j t → OfSome IsSoundScalar (shape_scalar t)
shape_read_sound j null h = tt
shape_read_sound j (boolean b) h = tt
shape_read_sound j (number n) h = tt
shape_read_sound j (text s) h =
    let is_shape = is_named s (codes "Point" ∷ codes "LineString" ∷ codes "Polygon" ∷ []) in
    of_if IsSoundScalar is_shape (Some (Text s)) None h tt
shape_read_sound j (list ts) h = tt
shape_read_sound j (object fs) h = tt

scalar_read_sound : (j : ℕ) (key : Key) (t : Tree) → IsSound j t → OfSome IsSoundScalar (scalar_form key t)
scalar_read_sound j Shape t h = shape_read_sound j t h
scalar_read_sound j Id t h = plain_read_sound j t h
scalar_read_sound j (Property name) t h = plain_read_sound j t h

one_read_sound : (j : ℕ) (key : Key) (ts : Trees) → AreSound j ts → OfSome IsSoundScalar (one_scalar key ts)
one_read_sound j key no_trees h = tt
one_read_sound j key (tree t no_trees) h = scalar_read_sound j key t h.0
one_read_sound j key (tree t (tree u ts)) h = tt

ordered_read_sound : (j : ℕ) (key : Key) (ts : Trees) → AreSound j ts
    → OfSome IsSoundScalar (ordered_scalar key ts)
ordered_read_sound j Shape ts h = tt
ordered_read_sound j Id ts h = one_read_sound j Id ts h
ordered_read_sound j (Property name) ts h = one_read_sound j (Property name) ts h

and_read_sound : (v : Option Scalar) (vs : Option (List Scalar)) → OfSome IsSoundScalar v
    → OfSome AreSoundScalars vs → OfSome AreSoundScalars (and_scalar v vs)
and_read_sound (Some v) (Some vs) h k = (h, k)
and_read_sound (Some v) None h k = tt
and_read_sound None vs h k = tt

scalars_read_sound : (j : ℕ) (key : Key) (ts : Trees) → AreSound j ts
    → OfSome AreSoundScalars (scalars_form key ts)
scalars_read_sound j key no_trees h = tt
scalars_read_sound j key (tree t ts) h =
    and_read_sound (scalar_form key t) (scalars_form key ts) (scalar_read_sound j key t h.0)
    (scalars_read_sound j key ts h.1)

alone_read_sound : (t : Test) (ts : Trees) → IsSoundTest t → OfSome IsSoundTest (alone t ts)
alone_read_sound t no_trees h = h
alone_read_sound t (tree u ts) h = tt

test_read_sound : (j : ℕ) (name : List ℕ) (key : Key) (ts : Trees) → AreSound j ts
    → OfSome IsSoundTest (test_form name key ts)
test_read_sound j name key ts h =
    of_if P (bytes_eq name (codes "has")) _ _ (alone_read_sound Has ts tt)
    (of_if P (bytes_eq name (codes "!has")) _ _ (alone_read_sound HasNot ts tt)
    (of_if P (bytes_eq name (codes "==")) _ _ (of_one Equal (λ v sound. sound))
    (of_if P (bytes_eq name (codes "!=")) _ _ (of_one NotEqual (λ v sound. sound))
    (of_if P (bytes_eq name (codes "<")) _ _ (of_order Below)
    (of_if P (bytes_eq name (codes "<=")) _ _ (of_order AtMost)
    (of_if P (bytes_eq name (codes ">")) _ _ (of_order Above)
    (of_if P (bytes_eq name (codes ">=")) _ _ (of_order AtLeast)
    (of_if P (bytes_eq name (codes "in")) _ _ (of_list Among (λ vs sound. sound))
    (of_if P (bytes_eq name (codes "!in")) _ _ (of_list NotAmong (λ vs sound. sound))
    tt)))))))))
  where
    P : Test → Type 0
    P = IsSoundTest

    of_one : (make : Scalar → Test) → ((v : Scalar) → IsSoundScalar v → P (make v))
        → OfSome P (option_map make (one_scalar key ts))
    of_one make step = of_map IsSoundScalar P make (one_scalar key ts) step (one_read_sound j key ts h)

    of_order : (order : Order) → OfSome P (option_map (Ordered order) (ordered_scalar key ts))
    of_order order =
        of_map IsSoundScalar P (Ordered order) (ordered_scalar key ts) (λ v sound. sound)
        (ordered_read_sound j key ts h)

    of_list : (make : List Scalar → Test) → ((vs : List Scalar) → AreSoundScalars vs → P (make vs))
        → OfSome P (option_map make (scalars_form key ts))
    of_list make step =
        of_map AreSoundScalars P make (scalars_form key ts) step (scalars_read_sound j key ts h)

-- ---- filters that were read of a sound filter, each at a place by the groups that are open there

abbrev ReadsSound : ℕ → FilterRead → Type 0
ReadsSound k (Ok f) = IsSound k (expression f)
ReadsSound k (Err fault) = Unit {0}

abbrev ReadSound : ℕ → Result Filters FilterFault → Type 0
ReadSound k (Ok fs) = AreSound k (trees_of (expressions fs))
ReadSound k (Err fault) = Unit {0}

abbrev GivesSound : FilterReader → Type 0
GivesSound r =
    (count k : ℕ) (path : List PathPart) → count ≤ 24 → k ≤ 2 * count + 3 → ReadsSound k (r count path)

abbrev GiveSound : List FilterReader → Type 0
GiveSound [] = Unit {0}
GiveSound (r ∷ rs) = GivesSound r × GiveSound rs

tested_is_sound : (k : ℕ) (key : Key) (t : Option Test) (path : List PathPart) → k < 59 → IsSoundKey key
    → OfSome IsSoundTest t → ReadsSound k (or_ill_formed (option_map (test key) t) path)
tested_is_sound k key (Some t) path within h sound = test_is_sound k key t within h sound
tested_is_sound k key None path within h sound = tt

keyed_is_sound : (j k : ℕ) (name : List ℕ) (ts : Trees) (path : List PathPart) → k < 59 → AreSound j ts
    → ReadsSound k (or_ill_formed (keyed_form name ts) path)
keyed_is_sound j k name no_trees path within h = tt
keyed_is_sound j k name (tree null ts) path within h = tt
keyed_is_sound j k name (tree (boolean b) ts) path within h = tt
keyed_is_sound j k name (tree (number n) ts) path within h = tt
keyed_is_sound j k name (tree (text key) ts) path within h =
    tested_is_sound k (key_named key) (test_form name (key_named key) ts) path within
    (named_key_is_sound key h.0) (test_read_sound j name (key_named key) ts h.1)
keyed_is_sound j k name (tree (list us) ts) path within h = tt
keyed_is_sound j k name (tree (object fs) ts) path within h = tt

and_filter_is_sound : (k : ℕ) (r : FilterRead) (later : Result Filters FilterFault) → ReadsSound k r
    → ReadSound k later → ReadSound k (and_filter r later)
and_filter_is_sound k (Ok f) (Ok fs) h more = (h, more)
and_filter_is_sound k (Ok f) (Err fault) h more = tt
and_filter_is_sound k (Err fault) later h more = tt

parts_are_sound : (i : ℕ) (rs : List FilterReader) (count k : ℕ) (path : List PathPart) → count ≤ 24
    → k ≤ 2 * count + 3 → GiveSound rs → ReadSound k (parts_form i rs count path)
parts_are_sound i [] count k path few within h = tt
parts_are_sound i (r ∷ rs) count k path few within h =
    and_filter_is_sound k (r count (path ++ Index i ∷ [])) (parts_form (i + 1) rs count path)
    (h.0 count k (path ++ Index i ∷ []) few within) (parts_are_sound (i + 1) rs count k path few within h.1)

-- how many levels are open around the parts of a group
abbrev levels_inside : Group → ℕ → ℕ
levels_inside groups.All k = suc k
levels_inside groups.Any k = suc k
levels_inside groups.None k = suc (suc k)

levels_of_group : (g : Group) (count k : ℕ) → k ≤ 2 * count + 3 → levels_inside g k ≤ 2 * (count + 1) + 3
levels_of_group groups.All count k h = omega arith
levels_of_group groups.Any count k h = omega arith
levels_of_group groups.None count k h = omega arith

grouped_is_sound : (k : ℕ) (g : Group) (r : Result Filters FilterFault) → k < 59
    → ReadSound (levels_inside g k) r → ReadsSound k (grouped g r)
grouped_is_sound k groups.All (Ok fs) within h = (omega arith, (ascii_is_utf8 (codes "all") refl, h))
grouped_is_sound k groups.Any (Ok fs) within h = (omega arith, (ascii_is_utf8 (codes "any") refl, h))
grouped_is_sound k groups.None (Ok fs) within h =
    (omega arith, (negation_utf8, ((omega arith, (ascii_is_utf8 (codes "any") refl, h)), tt)))
grouped_is_sound k g (Err fault) within h = tt

if_is_sound : (b : Bool) (k count : ℕ) (r : FilterRead) (path : List PathPart) → nat_lt count most_open ≡ b
    → (count < 24 → ReadsSound k r) → ReadsSound k (if b then r else ill_formed path)
if_is_sound true k count r path is h = h (ltb-true count 24 is)
if_is_sound false k count r path is h = tt

named_is_sound : (o : Option Group) (j count k : ℕ) (name : List ℕ) (ts : Trees) (rs : List FilterReader)
    (path : List PathPart) → count ≤ 24 → k ≤ 2 * count + 3 → AreSound j ts → GiveSound rs
    → ReadsSound k (unless_group o name ts rs count path)
named_is_sound (Some g) j count k name ts rs path few within h parts =
    let read = parts_form 1 rs (count + 1) path in
    if_is_sound (nat_lt count most_open) k count (grouped g read) path refl
    (λ open_few. grouped_is_sound k g read (omega arith)
    (parts_are_sound 1 rs (count + 1) (levels_inside g k) path (omega arith)
    (levels_of_group g count k within) parts))
named_is_sound None j count k name ts rs path few within h parts =
    keyed_is_sound j k name ts path (omega arith) h

mutual
  form_is_sound : (j : ℕ) (t : Tree) → IsSound j t → GivesSound (form t)
  form_is_sound j null h count k path few within = tt
  form_is_sound j (boolean b) h count k path few within = tt
  form_is_sound j (number n) h count k path few within = tt
  form_is_sound j (text s) h count k path few within = tt
  form_is_sound j (list ts) h count k path few within = array_is_sound (suc j) ts h.1 count k path few within
  form_is_sound j (object fs) h count k path few within = tt

  array_is_sound : (j : ℕ) (ts : Trees) → AreSound j ts → GivesSound (array_form ts)
  array_is_sound j no_trees h count k path few within = tt
  array_is_sound j (tree null ts) h count k path few within = tt
  array_is_sound j (tree (boolean b) ts) h count k path few within = tt
  array_is_sound j (tree (number n) ts) h count k path few within = tt
  array_is_sound j (tree (text name) ts) h count k path few within =
      named_is_sound (group_named name) j count k name ts (forms ts) path few within h.1
      (forms_are_sound j ts h.1)
  array_is_sound j (tree (list us) ts) h count k path few within = tt
  array_is_sound j (tree (object fs) ts) h count k path few within = tt

  forms_are_sound : (j : ℕ) (ts : Trees) → AreSound j ts → GiveSound (forms ts)
  forms_are_sound j no_trees h = tt
  forms_are_sound j (tree t ts) h = (form_is_sound j t h.0, forms_are_sound j ts h.1)

-- ---- migrated filters

expression_is_sound : (k : ℕ) (t : Tree) (r : FilterRead) → IsSound k t → ReadsSound k r
    → IsSound k (expression_or_itself r t)
expression_is_sound k t (Ok f) h read = read
expression_is_sound k t (Err fault) h read = h

if_legacy : (b : Bool) (k : ℕ) (x t : Tree) → IsSound k x → IsSound k t → IsSound k (if b then x else t)
if_legacy true k x t h staying = h
if_legacy false k x t h staying = staying

-- The migrated filter of a layer, with at most three levels open around it.
pub filter_stays_sound : (t : Tree) (k : ℕ) → k ≤ 3 → IsSound k t → IsSound k (migrated_filter t)
filter_stays_sound t k within h =
    if_legacy (is_legacy t) k (expression_or_itself (reading t) t) t
    (expression_is_sound k t (reading t) h (form_is_sound k t h 0 k [] (omega arith) within)) h
