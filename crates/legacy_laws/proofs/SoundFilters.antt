-- What holds of each filter that was read: its numbers are those of their texts, and values beside `$type`
-- are texts.
use Rattle.std.proofs.Common.{◌≡◌, ℕ, ◌+◌, ℤ, List, [], ◌∷◌, ◌++◌, refl, subst, true, false}
use Rattle.std.specs.Prelude.{Bool, codes, Option, Some, None, option_map, Result, Ok, Err, nat_lt, if◌then◌else◌}
use Rattle.std.specs.Str.{bytes_eq}
use Rattle.fixed_num.specs.Decimal.{read_text}
use Rattle.fixed_num.specs.declared.decimal.NumFault.{NumFault}
use Rattle.decimal_json.specs.Tree.{Tree, null, boolean, number, text, list, object, Trees, no_trees, tree}
use Rattle.decimal_json.specs.declared.paths.PathPart.{PathPart}
use Rattle.decimal_json.specs.declared.paths.PathPart.TheVariants.{Index}
use Rattle.legacy_filters.specs.declared.filter.FilterFault.{FilterFault}
use Rattle.legacy_filters.specs.declared.filter.Group.{Group}
use Rattle.legacy_filters.specs.declared.filter.Key.{Key}
use Rattle.legacy_filters.specs.declared.filter.Key.TheVariants.{Shape, Id, Property}
use Rattle.legacy_filters.specs.declared.filter.Order.{Order}
use Rattle.legacy_filters.specs.declared.filter.Order.TheVariants.{Below, AtMost, Above, AtLeast}
use Rattle.legacy_filters.specs.declared.scalars.Scalar.{Scalar}
use Rattle.legacy_filters.specs.declared.scalars.Scalar.TheVariants.{Flag, Number, Text}
use Rattle.legacy_filters.specs.declared.filter.Test.{Test}
use Rattle.legacy_filters.specs.declared.filter.Test.TheVariants.{Has, HasNot, Equal, NotEqual, Ordered, Among, NotAmong}
use Rattle.legacy_filters.specs.Split.{is_named}
use Rattle.legacy_filters.specs.Filter.{Filter, flag, test, group, Filters, no_filters, filter}
use Rattle.legacy_filters.specs.Form.{FilterRead, FilterReader, ill_formed, key_named, shape_scalar, number_scalar, plain_scalar}
use Rattle.legacy_filters.specs.Form.{scalar_form, alone, one_scalar, ordered_scalar, and_scalar, scalars_form}
use Rattle.legacy_filters.specs.Form.{test_form, keyed_form, or_ill_formed, group_named, and_filter, parts_form}
use Rattle.legacy_filters.specs.Form.{grouped, most_open, unless_group, form, array_form, forms, reading}

abbrev pub IsReadScalar : Scalar → Type 0
IsReadScalar (Flag b) = Unit {0}
IsReadScalar (Number n z) = read_text n ≡ Ok z
IsReadScalar (Text s) = Unit {0}

abbrev pub IsTextScalar : Scalar → Type 0
IsTextScalar (Flag b) = ⊥
IsTextScalar (Number n z) = ⊥
IsTextScalar (Text s) = Unit {0}

abbrev pub IsScalarOf : Key → Scalar → Type 0
IsScalarOf Shape v = IsTextScalar v
IsScalarOf Id v = IsReadScalar v
IsScalarOf (Property name) v = IsReadScalar v

abbrev pub AreScalarsOf : Key → List Scalar → Type 0
AreScalarsOf key [] = Unit {0}
AreScalarsOf key (v ∷ vs) = IsScalarOf key v × AreScalarsOf key vs

-- `$type` has no order
abbrev pub IsOrderedOf : Key → Scalar → Type 0
IsOrderedOf Shape v = ⊥
IsOrderedOf Id v = IsReadScalar v
IsOrderedOf (Property name) v = IsReadScalar v

abbrev pub IsTestOf : Key → Test → Type 0
IsTestOf key Has = Unit {0}
IsTestOf key HasNot = Unit {0}
IsTestOf key (Equal v) = IsScalarOf key v
IsTestOf key (NotEqual v) = IsScalarOf key v
IsTestOf key (Ordered order v) = IsOrderedOf key v
IsTestOf key (Among vs) = AreScalarsOf key vs
IsTestOf key (NotAmong vs) = AreScalarsOf key vs

abbrev mutual
  pub IsSound : Filter → Type 0
  IsSound (flag b) = Unit {0}
  IsSound (test key t) = IsTestOf key t
  IsSound (group g fs) = AreSound fs

  pub AreSound : Filters → Type 0
  AreSound no_filters = Unit {0}
  AreSound (filter f fs) = IsSound f × AreSound fs

-- ---- tests that were read

abbrev OfSome : {A : Type 0} → (A → Type 0) → Option A → Type 0
OfSome P (Some a) = P a
OfSome P None = Unit {0}

of_if : {A : Type 0} (P : A → Type 0) (b : Bool) (x y : Option A) → OfSome P x → OfSome P y
    → OfSome P (if b then x else y)
of_if P true x y h k = h
of_if P false x y h k = k

of_map : {A B : Type 0} (P : A → Type 0) (Q : B → Type 0) (make : A → B) (o : Option A)
    → ((a : A) → P a → Q (make a)) → OfSome P o → OfSome Q (option_map make o)
of_map P Q make (Some a) step h = step a h
of_map P Q make None step h = tt

number_is_read : (n : List ℕ) (r : Result ℤ NumFault) → read_text n ≡ r
    → OfSome IsReadScalar (number_scalar n r)
number_is_read n (Ok z) h = h
number_is_read n (Err past) h = tt

plain_is_read : (t : Tree) → OfSome IsReadScalar (plain_scalar t)
plain_is_read null = tt
plain_is_read (boolean b) = tt
plain_is_read (number n) = number_is_read n (read_text n) refl
plain_is_read (text s) = tt
plain_is_read (list ts) = tt
plain_is_read (object fs) = tt

shape_is_text : (t : Tree) → OfSome IsTextScalar (shape_scalar t)
shape_is_text null = tt
shape_is_text (boolean b) = tt
shape_is_text (number n) = tt
shape_is_text (text s) =
    let is_shape = is_named s (codes "Point" ∷ codes "LineString" ∷ codes "Polygon" ∷ []) in
    of_if IsTextScalar is_shape (Some (Text s)) None tt tt
shape_is_text (list ts) = tt
shape_is_text (object fs) = tt

scalar_is_sound : (key : Key) (t : Tree) → OfSome (IsScalarOf key) (scalar_form key t)
scalar_is_sound Shape t = shape_is_text t
scalar_is_sound Id t = plain_is_read t
scalar_is_sound (Property name) t = plain_is_read t

one_is_sound : (key : Key) (ts : Trees) → OfSome (IsScalarOf key) (one_scalar key ts)
one_is_sound key no_trees = tt
one_is_sound key (tree t no_trees) = scalar_is_sound key t
one_is_sound key (tree t (tree u ts)) = tt

ordered_is_sound : (key : Key) (ts : Trees) → OfSome (IsOrderedOf key) (ordered_scalar key ts)
ordered_is_sound Shape ts = tt
ordered_is_sound Id ts = one_is_sound Id ts
ordered_is_sound (Property name) ts = one_is_sound (Property name) ts

and_is_sound : (key : Key) (v : Option Scalar) (vs : Option (List Scalar))
    → OfSome (IsScalarOf key) v → OfSome (AreScalarsOf key) vs → OfSome (AreScalarsOf key) (and_scalar v vs)
and_is_sound key (Some v) (Some vs) h k = (h, k)
and_is_sound key (Some v) None h k = tt
and_is_sound key None vs h k = tt

scalars_are_sound : (key : Key) (ts : Trees) → OfSome (AreScalarsOf key) (scalars_form key ts)
scalars_are_sound key no_trees = tt
scalars_are_sound key (tree t ts) =
    and_is_sound key (scalar_form key t) (scalars_form key ts) (scalar_is_sound key t) (scalars_are_sound key ts)

alone_is_sound : (key : Key) (t : Test) (ts : Trees) → IsTestOf key t → OfSome (IsTestOf key) (alone t ts)
alone_is_sound key t no_trees h = h
alone_is_sound key t (tree u ts) h = tt

order_is_sound : (key : Key) (order : Order) (ts : Trees)
    → OfSome (IsTestOf key) (option_map (Ordered order) (ordered_scalar key ts))
order_is_sound key order ts =
    of_map (IsOrderedOf key) (IsTestOf key) (Ordered order) (ordered_scalar key ts) (λ v h. h)
    (ordered_is_sound key ts)

one_scalar_is_sound : (key : Key) (make : Scalar → Test) (ts : Trees)
    → ((v : Scalar) → IsScalarOf key v → IsTestOf key (make v))
    → OfSome (IsTestOf key) (option_map make (one_scalar key ts))
one_scalar_is_sound key make ts step =
    of_map (IsScalarOf key) (IsTestOf key) make (one_scalar key ts) step (one_is_sound key ts)

list_is_sound : (key : Key) (make : List Scalar → Test) (ts : Trees)
    → ((vs : List Scalar) → AreScalarsOf key vs → IsTestOf key (make vs))
    → OfSome (IsTestOf key) (option_map make (scalars_form key ts))
list_is_sound key make ts step =
    of_map (AreScalarsOf key) (IsTestOf key) make (scalars_form key ts) step (scalars_are_sound key ts)

test_is_sound : (name : List ℕ) (key : Key) (ts : Trees) → OfSome (IsTestOf key) (test_form name key ts)
test_is_sound name key ts =
    of_if P (bytes_eq name (codes "has")) _ _ (alone_is_sound key Has ts tt)
    (of_if P (bytes_eq name (codes "!has")) _ _ (alone_is_sound key HasNot ts tt)
    (of_if P (bytes_eq name (codes "==")) _ _ (one_scalar_is_sound key Equal ts (λ v h. h))
    (of_if P (bytes_eq name (codes "!=")) _ _ (one_scalar_is_sound key NotEqual ts (λ v h. h))
    (of_if P (bytes_eq name (codes "<")) _ _ (order_is_sound key Below ts)
    (of_if P (bytes_eq name (codes "<=")) _ _ (order_is_sound key AtMost ts)
    (of_if P (bytes_eq name (codes ">")) _ _ (order_is_sound key Above ts)
    (of_if P (bytes_eq name (codes ">=")) _ _ (order_is_sound key AtLeast ts)
    (of_if P (bytes_eq name (codes "in")) _ _ (list_is_sound key Among ts (λ vs h. h))
    (of_if P (bytes_eq name (codes "!in")) _ _ (list_is_sound key NotAmong ts (λ vs h. h))
    tt)))))))))
  where
    P : Test → Type 0
    P = IsTestOf key

-- ---- filters that were read

abbrev ReadsSound : FilterRead → Type 0
ReadsSound (Ok f) = IsSound f
ReadsSound (Err fault) = Unit {0}

abbrev ReadSound : Result Filters FilterFault → Type 0
ReadSound (Ok fs) = AreSound fs
ReadSound (Err fault) = Unit {0}

abbrev GivesSound : FilterReader → Type 0
GivesSound r = (count : ℕ) (path : List PathPart) → ReadsSound (r count path)

abbrev GiveSound : List FilterReader → Type 0
GiveSound [] = Unit {0}
GiveSound (r ∷ rs) = GivesSound r × GiveSound rs

tested_is_sound : (key : Key) (t : Option Test) (path : List PathPart) → OfSome (IsTestOf key) t
    → ReadsSound (or_ill_formed (option_map (test key) t) path)
tested_is_sound key (Some t) path h = h
tested_is_sound key None path h = tt

keyed_is_sound : (name : List ℕ) (ts : Trees) (path : List PathPart)
    → ReadsSound (or_ill_formed (keyed_form name ts) path)
keyed_is_sound name no_trees path = tt
keyed_is_sound name (tree null ts) path = tt
keyed_is_sound name (tree (boolean b) ts) path = tt
keyed_is_sound name (tree (number n) ts) path = tt
keyed_is_sound name (tree (text key) ts) path =
    tested_is_sound (key_named key) (test_form name (key_named key) ts) path
    (test_is_sound name (key_named key) ts)
keyed_is_sound name (tree (list us) ts) path = tt
keyed_is_sound name (tree (object fs) ts) path = tt

filters_are_sound : (r : FilterRead) (later : Result Filters FilterFault) → ReadsSound r → ReadSound later
    → ReadSound (and_filter r later)
filters_are_sound (Ok f) (Ok fs) h k = (h, k)
filters_are_sound (Ok f) (Err fault) h k = tt
filters_are_sound (Err fault) later h k = tt

parts_are_sound : (i : ℕ) (rs : List FilterReader) (count : ℕ) (path : List PathPart) → GiveSound rs
    → ReadSound (parts_form i rs count path)
parts_are_sound i [] count path h = tt
parts_are_sound i (r ∷ rs) count path h =
    filters_are_sound (r count (path ++ Index i ∷ [])) (parts_form (i + 1) rs count path)
    (h.0 count (path ++ Index i ∷ [])) (parts_are_sound (i + 1) rs count path h.1)

grouped_is_sound : (g : Group) (r : Result Filters FilterFault) → ReadSound r → ReadsSound (grouped g r)
grouped_is_sound g (Ok fs) h = h
grouped_is_sound g (Err fault) h = tt

if_is_sound : (b : Bool) (r : FilterRead) (path : List PathPart) → ReadsSound r
    → ReadsSound (if b then r else ill_formed path)
if_is_sound true r path h = h
if_is_sound false r path h = tt

named_is_sound : (o : Option Group) (name : List ℕ) (ts : Trees) (rs : List FilterReader) (count : ℕ)
    (path : List PathPart) → GiveSound rs → ReadsSound (unless_group o name ts rs count path)
named_is_sound (Some g) name ts rs count path h =
    let parts = parts_form 1 rs (count + 1) path in
    if_is_sound (nat_lt count most_open) (grouped g parts) path
    (grouped_is_sound g parts (parts_are_sound 1 rs (count + 1) path h))
named_is_sound None name ts rs count path h = keyed_is_sound name ts path

mutual
  form_is_sound : (t : Tree) → GivesSound (form t)
  form_is_sound null count path = tt
  form_is_sound (boolean b) count path = tt
  form_is_sound (number n) count path = tt
  form_is_sound (text s) count path = tt
  form_is_sound (list ts) count path = array_is_sound ts count path
  form_is_sound (object fs) count path = tt

  array_is_sound : (ts : Trees) → GivesSound (array_form ts)
  array_is_sound no_trees count path = tt
  array_is_sound (tree null ts) count path = tt
  array_is_sound (tree (boolean b) ts) count path = tt
  array_is_sound (tree (number n) ts) count path = tt
  array_is_sound (tree (text name) ts) count path =
      named_is_sound (group_named name) name ts (forms ts) count path (forms_are_sound ts)
  array_is_sound (tree (list us) ts) count path = tt
  array_is_sound (tree (object fs) ts) count path = tt

  forms_are_sound : (ts : Trees) → GiveSound (forms ts)
  forms_are_sound no_trees = tt
  forms_are_sound (tree t ts) = (form_is_sound t, forms_are_sound ts)

pub read_is_sound : (t : Tree) (f : Filter) → reading t ≡ Ok f → IsSound f
read_is_sound t f read = subst ReadsSound read (form_is_sound t 0 [])
