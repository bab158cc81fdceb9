-- The value of a property has one of four forms, decided in this order. Source: own.
use Rattle.std.specs.Prelude.{codes, Bool, false, ◌&&◌, is_some, if◌then◌else◌}
use Rattle.std.specs.Str.{bytes_eq}
use Rattle.decimal_json.specs.Accessors.{is_object}
use Rattle.decimal_json.specs.Tree.{Tree, text, list, tree}
use Rattle.property_tables.specs.Rows.{RowData}
use Rattle.expr_syntax.specs.Names.{name_of}
use Rattle.legacy_functions.specs.Tokens.{has_tokens}
use Rattle.value_forms.specs.declared.forms.Form.{Form}
use Rattle.value_forms.specs.declared.forms.Form.TheVariants.{Expression, Function, TokenText, Literal}

-- a non-empty array whose first element is the name of an operator, one that is outside too
abbrev pub is_expression : Tree → Bool
is_expression (list (tree (text name) ts)) = is_some (name_of name)
is_expression _ = false

abbrev pub is_function : Tree → Bool
is_function t = is_object t

abbrev pub is_token_text : RowData → Tree → Bool
is_token_text row (text s) = row.takes_tokens && has_tokens s
is_token_text row _ = false

-- `visibility` takes a literal alone
abbrev pub takes_literals_alone : RowData → Bool
takes_literals_alone row = bytes_eq row.name (codes "visibility")

abbrev pub form_of : RowData → Tree → Form
form_of row t =
    if takes_literals_alone row then Literal else
    if is_expression t then Expression else
    if is_function t then Function else
    if is_token_text row t then TokenText else
    Literal
