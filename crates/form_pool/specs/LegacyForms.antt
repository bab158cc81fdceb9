-- What a legacy form gives, and the expression that gives the same. Source: own.
use Rattle.std.specs.Prelude.{◌≡◌, ℤ, [], Some, None, Ok, Err}
use Rattle.decimal_json.specs.Tree.{Tree}
use Rattle.prop_values.specs.Data.{boolean, text}
use Rattle.prop_values.specs.declared.fault.EvalFault.TheVariants.{WrongType}
use Rattle.prop_values.specs.declared.kinds.Want.{Want}
use Rattle.prop_values.specs.declared.kinds.Want.TheVariants as wants
use Rattle.property_tables.specs.Fitting.{fit}
use Rattle.expr_syntax.specs.Reading.{Reading, reading_with}
use Rattle.operator_values.specs.Evaluated.{Evaluated}
use Rattle.expr_nodes.specs.Evaluators.{Sized, sized_term}
use Rattle.tile_reader.specs.declared.tile.Feature.{Feature}
use Rattle.legacy_filters.specs.Form as filters
use Rattle.legacy_filters.specs.Meaning.{passes}
use Rattle.legacy_filters.specs.ToExpression.{expression}
use Rattle.legacy_filters.specs.View.{filter_of}
use Rattle.legacy_functions.specs.Form as functions
use Rattle.legacy_functions.specs.Meaning.{value_of}
use Rattle.legacy_functions.specs.ToExpression.{function_expression}
use Rattle.legacy_functions.specs.Tokens.{token_expression, token_text}
use Rattle.legacy_functions.specs.View.{function_of, row_of}
use Rattle.legacy_laws.specs.LegacyFunctionLaw.{IsTableRow}
use Rattle.form_pool.specs.declared.legacy_form.LegacyForm.{LegacyForm}
use Rattle.form_pool.specs.declared.legacy_form.LegacyForm.TheVariants.{Filter, Function, Tokens}

-- what it gives at a zoom on a feature
abbrev pub form_value : LegacyForm → ℤ → Feature → Evaluated
form_value (Function f) zoom feature = value_of (row_of f) (function_of f) zoom feature
form_value (Tokens s want) zoom feature = fit want (text (token_text s feature))
form_value (Filter f) zoom feature = Ok (boolean (passes (filter_of f) feature))

-- the expression that it migrates to, and its want
abbrev pub form_tree : LegacyForm → Tree
form_tree (Function f) = function_expression (row_of f) (function_of f)
form_tree (Tokens s want) = token_expression s
form_tree (Filter f) = expression (filter_of f)

abbrev pub form_want : LegacyForm → Want
form_want (Function f) = (row_of f).want
form_want (Tokens s want) = want
form_want (Filter f) = wants.Boolean

-- It was read from a style: a function on a row of the table of properties.
abbrev pub IsReadForm : LegacyForm → Type 0
IsReadForm (Function f) =
    IsTableRow (row_of f) × ((t : Tree) × (functions.form (row_of f) t ≡ Some (Some (function_of f))))
IsReadForm (Tokens s want) = Unit {0}
IsReadForm (Filter f) = (t : Tree) × (filters.reading t ≡ Ok (filter_of f))

-- what a tree gives in each world under a want, with how many nodes it has; a tree that is no expression gives nothing
abbrev pub sized_reading : Want → Reading → Sized
sized_reading want (Ok (Some e)) = sized_term e want
sized_reading want (Ok None) = ((λ world. Err WrongType), 0)
sized_reading want (Err fault) = ((λ world. Err WrongType), 0)

-- What the expression of a form gives in each world, with how many nodes it has. It reads the same whatever the values
-- of the global state are.
abbrev pub sized_form : LegacyForm → Sized
sized_form form = sized_reading (form_want form) (reading_with (form_tree form) [])
