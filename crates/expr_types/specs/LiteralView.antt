-- The literals among the arguments of a node, as definitions see them.
use Rattle.std.specs.Prelude.{List, Option, None, if◌then◌else◌}
use Rattle.prop_values.specs.Data.{Data}
use Rattle.prop_values.specs.declared.kinds.Item.{Item}
use Rattle.prop_values.specs.declared.kinds.Item.TheVariants as items
use Rattle.prop_values.specs.declared.kinds.Want.TheVariants as wants
use Rattle.property_tables.specs.Fitting.{fit}
use Rattle.expr_syntax.specs.TermView.{terms}
use Rattle.expr_syntax.specs.declared.expression.Expr.{Expr}
use Rattle.expr_types.specs.Literals.{is_value}
use Rattle.expr_types.specs.Typing.{literals, Typing, typings}

abbrev pub literals_of : List Expr → List (Option Data)
literals_of es = literals (terms es)

abbrev pub typings_of : List Expr → List Typing
typings_of es = typings (terms es)

-- what all items of a value are, where it is a list
abbrev pub some_item_of : Data → Item
some_item_of d =
    if is_value (fit (wants.List items.Boolean None) d) then items.Boolean
    else if is_value (fit (wants.List items.Number None) d) then items.Number
    else if is_value (fit (wants.List items.Text None) d) then items.Text
    else items.Any
