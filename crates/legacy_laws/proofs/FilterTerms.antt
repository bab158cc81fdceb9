-- The term of each legacy filter, by the table of its expression.
use Rattle.std.specs.Prelude.{ℕ, List, [], ◌∷◌, map, codes, true, false}
use Rattle.prop_values.specs.Data.{Data, null, boolean, number, text, list, items_of}
use Rattle.expr_syntax.specs.declared.expression.Operator.{Operator}
use Rattle.expr_syntax.specs.declared.expression.Operator.TheVariants as operators
use Rattle.expr_syntax.specs.Term.{Term, literal, node, Terms, no_terms, term, terms_of}
use Rattle.legacy_filters.specs.declared.filter.Group.{Group}
use Rattle.legacy_filters.specs.declared.filter.Group.TheVariants as groups
use Rattle.legacy_filters.specs.declared.filter.Key.{Key}
use Rattle.legacy_filters.specs.declared.filter.Key.TheVariants.{Shape, Id, Property}
use Rattle.legacy_filters.specs.declared.filter.Order.{Order}
use Rattle.legacy_filters.specs.declared.filter.Order.TheVariants.{Below, AtMost, Above, AtLeast}
use Rattle.legacy_filters.specs.declared.scalars.Scalar.{Scalar}
use Rattle.legacy_filters.specs.declared.scalars.Scalar.TheVariants.{Flag, Number, Text}
use Rattle.legacy_filters.specs.declared.filter.Test.{Test}
use Rattle.legacy_filters.specs.declared.filter.Test.TheVariants.{Has, HasNot, Equal, NotEqual, Ordered, Among, NotAmong}
use Rattle.legacy_filters.specs.Filter.{Filter, flag, test, group, Filters, no_filters, filter}
use Rattle.legacy_filters.specs.Scalars.{scalar_data}

abbrev pub one_term : Operator → Term → Term
one_term op a = node op (term a no_terms)

abbrev pub two_terms : Operator → Term → Term → Term
two_terms op a b = node op (term a (term b no_terms))

abbrev pub value_term : Key → Term
value_term Shape = node operators.GeometryType no_terms
value_term Id = node operators.Id no_terms
value_term (Property name) = one_term operators.Get (literal (text name))

abbrev pub has_term : Key → Term
has_term Shape = literal (boolean true)
has_term Id = two_terms operators.NotEqual (node operators.Id no_terms) (literal null)
has_term (Property name) = one_term operators.Has (literal (text name))

abbrev pub order_operator : Order → Operator
order_operator Below = operators.Less
order_operator AtMost = operators.LessOrEqual
order_operator Above = operators.Greater
order_operator AtLeast = operators.GreaterOrEqual

-- what an order asks of a value: its kind, and the order
abbrev pub kind_term : List ℕ → Term → Term
kind_term kind value = two_terms operators.Equal (one_term operators.TypeOf value) (literal (text kind))

abbrev pub guarded_term : Order → List ℕ → Term → Data → Term
guarded_term order kind value d =
    two_terms operators.All (kind_term kind value) (two_terms (order_operator order) value (literal d))

abbrev pub order_term : Order → Key → Scalar → Term
order_term order key (Flag b) = literal (boolean false)
order_term order key (Number n z) = guarded_term order (codes "number") (value_term key) (number z)
order_term order key (Text s) = guarded_term order (codes "string") (value_term key) (text s)

abbrev pub among_term : Key → List Scalar → Term
among_term key vs = two_terms operators.In (value_term key) (literal (list (items_of (map scalar_data vs))))

abbrev pub test_term : Key → Test → Term
test_term key Has = has_term key
test_term key HasNot = one_term operators.Not (has_term key)
test_term key (Equal v) = two_terms operators.Equal (value_term key) (literal (scalar_data v))
test_term key (NotEqual v) = two_terms operators.NotEqual (value_term key) (literal (scalar_data v))
test_term key (Ordered order v) = order_term order key v
test_term key (Among vs) = among_term key vs
test_term key (NotAmong vs) = one_term operators.Not (among_term key vs)

abbrev pub group_term : Group → Terms → Term
group_term groups.All ts = node operators.All ts
group_term groups.Any ts = node operators.Any ts
group_term groups.None ts = one_term operators.Not (node operators.Any ts)

abbrev mutual
  pub filter_term : Filter → Term
  filter_term (flag b) = literal (boolean b)
  filter_term (test key t) = test_term key t
  filter_term (group g fs) = group_term g (terms_of (filter_terms fs))

  pub filter_terms : Filters → List Term
  filter_terms no_filters = []
  filter_terms (filter f fs) = filter_term f ∷ filter_terms fs
