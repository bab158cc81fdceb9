-- Which trees are legacy filters, and which part of another tree is ill-formed. Source: own.
use Rattle.std.specs.Prelude.{ℕ, ◌+◌, ℤ, List, [], ◌∷◌, ◌++◌, nat_lt, codes, Option, Some, None, option_map, Result, Ok}
use Rattle.std.specs.Prelude.{Err, if◌then◌else◌}
use Rattle.std.specs.Str.{bytes_eq}
use Rattle.fixed_num.specs.Decimal.{read_text}
use Rattle.fixed_num.specs.declared.decimal.NumFault.{NumFault}
use Rattle.decimal_json.specs.Tree.{Tree, null, boolean, number, text, list, object, Trees, no_trees, tree}
use Rattle.decimal_json.specs.declared.paths.PathPart.{PathPart}
use Rattle.decimal_json.specs.declared.paths.PathPart.TheVariants as parts
use Rattle.legacy_filters.specs.declared.filter.FilterFault.{FilterFault}
use Rattle.legacy_filters.specs.declared.filter.Group.{Group}
use Rattle.legacy_filters.specs.declared.filter.Group.TheVariants as groups
use Rattle.legacy_filters.specs.declared.filter.Key.{Key}
use Rattle.legacy_filters.specs.declared.filter.Key.TheVariants as keys
use Rattle.legacy_filters.specs.declared.filter.Order.TheVariants.{Below, AtMost, Above, AtLeast}
use Rattle.legacy_filters.specs.declared.scalars.Scalar.{Scalar}
use Rattle.legacy_filters.specs.declared.scalars.Scalar.TheVariants as scalars
use Rattle.legacy_filters.specs.declared.filter.Test.{Test}
use Rattle.legacy_filters.specs.declared.filter.Test.TheVariants.{Has, HasNot, Equal, NotEqual, Ordered, Among}
use Rattle.legacy_filters.specs.declared.filter.Test.TheVariants.{NotAmong}
use Rattle.legacy_filters.specs.Split.{is_named}
use Rattle.legacy_filters.specs.Filter.{Filter, flag, test, group, Filters, no_filters, filter}

-- a filter, or the innermost ill-formed part that is the first in order
abbrev pub FilterRead : Type 0
FilterRead = Result Filter FilterFault

-- what a tree is where so many groups are open around it, by its path from the root
abbrev pub FilterReader : Type 0
FilterReader = ℕ → List PathPart → FilterRead

abbrev pub ill_formed : List PathPart → FilterRead
ill_formed path = Err (record { path = path })

-- ---- keys are texts, and two of them are no property

abbrev pub key_named : List ℕ → Key
key_named name =
    if bytes_eq name (codes "$type") then keys.Shape else
    if bytes_eq name (codes "$id") then keys.Id else
    keys.Property name

-- ---- values are texts, booleans and numbers within the bound; with `$type` they are three texts

abbrev pub shape_scalar : Tree → Option Scalar
shape_scalar (text s) =
    if is_named s (codes "Point" ∷ codes "LineString" ∷ codes "Polygon" ∷ []) then Some (scalars.Text s) else None
shape_scalar _ = None

abbrev pub number_scalar : List ℕ → Result ℤ NumFault → Option Scalar
number_scalar n (Ok z) = Some (scalars.Number n z)
number_scalar n (Err past) = None

abbrev pub plain_scalar : Tree → Option Scalar
plain_scalar (boolean b) = Some (scalars.Flag b)
plain_scalar (number n) = number_scalar n (read_text n)
plain_scalar (text s) = Some (scalars.Text s)
plain_scalar _ = None

abbrev pub scalar_form : Key → Tree → Option Scalar
scalar_form keys.Shape t = shape_scalar t
scalar_form keys.Id t = plain_scalar t
scalar_form (keys.Property name) t = plain_scalar t

-- ---- what may follow a key

-- nothing
abbrev pub alone : Test → Trees → Option Test
alone t no_trees = Some t
alone t _ = None

-- one value
abbrev pub one_scalar : Key → Trees → Option Scalar
one_scalar key (tree t no_trees) = scalar_form key t
one_scalar key _ = None

-- one value, and `$type` has no order
abbrev pub ordered_scalar : Key → Trees → Option Scalar
ordered_scalar keys.Shape ts = None
ordered_scalar keys.Id ts = one_scalar keys.Id ts
ordered_scalar (keys.Property name) ts = one_scalar (keys.Property name) ts

-- any number of values
abbrev pub and_scalar : Option Scalar → Option (List Scalar) → Option (List Scalar)
and_scalar (Some v) (Some vs) = Some (v ∷ vs)
and_scalar (Some v) None = None
and_scalar None later = None

abbrev pub scalars_form : Key → Trees → Option (List Scalar)
scalars_form key no_trees = Some []
scalars_form key (tree t ts) = and_scalar (scalar_form key t) (scalars_form key ts)

-- the test of a name, by what follows the key
abbrev pub test_form : List ℕ → Key → Trees → Option Test
test_form name key ts =
    if bytes_eq name (codes "has") then alone Has ts else
    if bytes_eq name (codes "!has") then alone HasNot ts else
    if bytes_eq name (codes "==") then option_map Equal (one_scalar key ts) else
    if bytes_eq name (codes "!=") then option_map NotEqual (one_scalar key ts) else
    if bytes_eq name (codes "<") then option_map (Ordered Below) (ordered_scalar key ts) else
    if bytes_eq name (codes "<=") then option_map (Ordered AtMost) (ordered_scalar key ts) else
    if bytes_eq name (codes ">") then option_map (Ordered Above) (ordered_scalar key ts) else
    if bytes_eq name (codes ">=") then option_map (Ordered AtLeast) (ordered_scalar key ts) else
    if bytes_eq name (codes "in") then option_map Among (scalars_form key ts) else
    if bytes_eq name (codes "!in") then option_map NotAmong (scalars_form key ts) else
    None

-- a key, and what follows it
abbrev pub keyed_form : List ℕ → Trees → Option Filter
keyed_form name (tree (text key) ts) = option_map (test (key_named key)) (test_form name (key_named key) ts)
keyed_form name _ = None

abbrev pub or_ill_formed : Option Filter → List PathPart → FilterRead
or_ill_formed (Some f) path = Ok f
or_ill_formed None path = ill_formed path

-- ---- groups: any number of filters

abbrev pub group_named : List ℕ → Option Group
group_named name =
    if bytes_eq name (codes "all") then Some groups.All else
    if bytes_eq name (codes "any") then Some groups.Any else
    if bytes_eq name (codes "none") then Some groups.None else
    None

abbrev pub and_filter : FilterRead → Result Filters FilterFault → Result Filters FilterFault
and_filter (Ok f) (Ok fs) = Ok (filter f fs)
and_filter (Ok f) (Err fault) = Err fault
and_filter (Err fault) later = Err fault

-- the parts from place i on
abbrev pub parts_form : ℕ → List FilterReader → ℕ → List PathPart → Result Filters FilterFault
parts_form i [] count path = Ok no_filters
parts_form i (r ∷ rs) count path = and_filter (r count (path ++ parts.Index i ∷ [])) (parts_form (i + 1) rs count path)

abbrev pub grouped : Group → Result Filters FilterFault → FilterRead
grouped g (Ok fs) = Ok (group g fs)
grouped g (Err fault) = Err fault

-- how many groups may be open at a place
abbrev pub most_open : ℕ
most_open = 24

-- a group with 24 open around it is ill-formed, whatever its parts are
abbrev pub group_form : Group → List FilterReader → FilterReader
group_form g rs count path =
    if nat_lt count most_open then grouped g (parts_form 1 rs (count + 1) path) else ill_formed path

-- an array that begins with a name, by the elements after it and what these read as
abbrev pub unless_group : Option Group → List ℕ → Trees → List FilterReader → FilterReader
unless_group (Some g) name ts rs count path = group_form g rs count path
unless_group None name ts rs count path = or_ill_formed (keyed_form name ts) path

abbrev pub named_form : List ℕ → Trees → List FilterReader → FilterReader
named_form name ts rs count path = unless_group (group_named name) name ts rs count path

abbrev mutual
  pub form : Tree → FilterReader
  form null = λ count path. ill_formed path
  form (boolean b) = λ count path. Ok (flag b)
  form (number n) = λ count path. ill_formed path
  form (text s) = λ count path. ill_formed path
  form (list ts) = λ count path. array_form ts count path
  form (object fs) = λ count path. ill_formed path

  pub array_form : Trees → FilterReader
  array_form no_trees = λ count path. ill_formed path
  array_form (tree (text name) ts) = λ count path. named_form name ts (forms ts) count path
  array_form (tree _ ts) = λ count path. ill_formed path

  pub forms : Trees → List FilterReader
  forms no_trees = []
  forms (tree t ts) = form t ∷ forms ts

-- The legacy filter that a tree is, or its fault.
abbrev pub reading : Tree → FilterRead
reading t = form t 0 []
