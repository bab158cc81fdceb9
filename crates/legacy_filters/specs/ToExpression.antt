-- The expression that means what a legacy filter means, as JSON. Source: own.
use Rattle.std.specs.Prelude.{ℕ, List, [], ◌∷◌, map, codes, false, true}
use Rattle.decimal_json.specs.Tree.{Tree, null, boolean, number, text, list, trees_of, tree}
use Rattle.legacy_filters.specs.declared.filter.Group.{Group}
use Rattle.legacy_filters.specs.declared.filter.Group.TheVariants as groups
use Rattle.legacy_filters.specs.declared.filter.Key.{Key}
use Rattle.legacy_filters.specs.declared.filter.Key.TheVariants as keys
use Rattle.legacy_filters.specs.declared.filter.Order.{Order}
use Rattle.legacy_filters.specs.declared.filter.Order.TheVariants.{Below, AtMost, Above, AtLeast}
use Rattle.legacy_filters.specs.declared.scalars.Scalar.{Scalar}
use Rattle.legacy_filters.specs.declared.scalars.Scalar.TheVariants as scalars
use Rattle.legacy_filters.specs.declared.filter.Test.{Test}
use Rattle.legacy_filters.specs.declared.filter.Test.TheVariants.{Has, HasNot, Equal, NotEqual, Ordered, Among}
use Rattle.legacy_filters.specs.declared.filter.Test.TheVariants.{NotAmong}
use Rattle.legacy_filters.specs.Filter.{Filter, flag, test, group, Filters, no_filters, filter}

-- an array of a name and elements
abbrev pub call : List ℕ → List Tree → Tree
call name elements = list (tree (text name) (trees_of elements))

abbrev pub negation : Tree → Tree
negation e = call (codes "!") (e ∷ [])

-- what gives the value of a key
abbrev pub value_expression : Key → Tree
value_expression keys.Shape = call (codes "geometry-type") []
value_expression keys.Id = call (codes "id") []
value_expression (keys.Property name) = call (codes "get") (text name ∷ [])

-- a value, a number as it was
abbrev pub scalar_tree : Scalar → Tree
scalar_tree (scalars.Flag b) = boolean b
scalar_tree (scalars.Number n z) = number n
scalar_tree (scalars.Text s) = text s

abbrev pub has_expression : Key → Tree
has_expression keys.Shape = boolean true
has_expression keys.Id = call (codes "!=") (value_expression keys.Id ∷ null ∷ [])
has_expression (keys.Property name) = call (codes "has") (text name ∷ [])

abbrev pub order_name : Order → List ℕ
order_name Below = codes "<"
order_name AtMost = codes "<="
order_name Above = codes ">"
order_name AtLeast = codes ">="

-- an order of values that are of this kind
abbrev pub kind_and_order : Order → List ℕ → Tree → Tree → Tree
kind_and_order order kind value v =
    call (codes "all") (
    call (codes "==") (call (codes "typeof") (value ∷ []) ∷ text kind ∷ [])
    ∷ call (order_name order) (value ∷ v ∷ [])
    ∷ [])

-- nothing is ordered with a boolean
abbrev pub order_expression : Order → Key → Scalar → Tree
order_expression order key (scalars.Flag b) = boolean false
order_expression order key (scalars.Number n z) =
    kind_and_order order (codes "number") (value_expression key) (number n)
order_expression order key (scalars.Text s) = kind_and_order order (codes "string") (value_expression key) (text s)

abbrev pub among_expression : Key → List Scalar → Tree
among_expression key vs =
    call (codes "in") (value_expression key ∷ call (codes "literal") (list (trees_of (map scalar_tree vs)) ∷ []) ∷ [])

abbrev pub test_expression : Key → Test → Tree
test_expression key Has = has_expression key
test_expression key HasNot = negation (has_expression key)
test_expression key (Equal v) = call (codes "==") (value_expression key ∷ scalar_tree v ∷ [])
test_expression key (NotEqual v) = call (codes "!=") (value_expression key ∷ scalar_tree v ∷ [])
test_expression key (Ordered order v) = order_expression order key v
test_expression key (Among vs) = among_expression key vs
test_expression key (NotAmong vs) = negation (among_expression key vs)

abbrev pub group_expression : Group → List Tree → Tree
group_expression groups.All es = call (codes "all") es
group_expression groups.Any es = call (codes "any") es
group_expression groups.None es = negation (call (codes "any") es)

abbrev mutual
  pub expression : Filter → Tree
  expression (flag b) = boolean b
  expression (test key t) = test_expression key t
  expression (group g fs) = group_expression g (expressions fs)

  pub expressions : Filters → List Tree
  expressions no_filters = []
  expressions (filter f fs) = expression f ∷ expressions fs
