-- Literals among simplified elements: what is written, its value, and its kind where it is. Source: own.
use Rattle.std.specs.Prelude.{ℕ, nat_le, ℤ, unsigned_abs, List, [], Bool, false, codes, Option, Some, None, Result, Ok}
use Rattle.std.specs.Prelude.{Err, if◌then◌else◌}
use Rattle.std.specs.Str.{bytes_eq}
use Rattle.decimal_json.specs.Tree.{Tree, null, boolean, number, text, list, object, Trees, tree}
use Rattle.fixed_num.specs.Number.{bound}
use Rattle.fixed_num.specs.NumberText.{number_text}
use Rattle.fixed_num.specs.declared.decimal.NumFault.{NumFault}
use Rattle.prop_values.specs.Data as values
use Rattle.prop_values.specs.Data.{Data}
use Rattle.prop_values.specs.JsonData.{json_data}
use Rattle.prop_values.specs.declared.kinds.Kind.{Kind}
use Rattle.prop_values.specs.declared.kinds.Want.{Want}
use Rattle.expr_syntax.specs.Elements.{second}
use Rattle.expr_types.specs.NodeKinds.{literal_kind_under}
use Rattle.style_simplify.specs.SimpleElements.{SimpleElement}

-- whether the first item of an array is a text
abbrev pub begins_with : List ℕ → Trees → Bool
begins_with name (tree (text s) ts) = bytes_eq s name
begins_with name _ = false

abbrev pub is_literal_node : Trees → Bool
is_literal_node ts = begins_with (codes "literal") ts

abbrev pub value_in : Result Data NumFault → Option Data
value_in (Ok d) = Some d
value_in (Err past) = None

abbrev pub value_at : Option Tree → Option Data
value_at (Some t) = value_in (json_data t)
value_at None = None

-- the value of a literal, bare or of a `literal` node
abbrev pub literal_value : Tree → Option Data
literal_value (list ts) = if is_literal_node ts then value_at (second ts) else None
literal_value (object fs) = None
literal_value t = value_in (json_data t)

abbrev pub kind_of_value : Want → Option Data → Option Kind
kind_of_value want (Some d) = literal_kind_under d want
kind_of_value want None = None

-- a literal as it is written, under a want
abbrev pub literal_element : Want → Tree → SimpleElement
literal_element want t =
    record { tree = t; is_part = false; kind = kind_of_value want (literal_value t); asks = []; reads = false }

-- a number as a literal; one past the bound is read by none
abbrev pub number_literal : ℤ → Option Tree
number_literal z = if nat_le (unsigned_abs z) bound then Some (number (number_text z)) else None

-- how a value is written as a bare literal, where it can be
abbrev pub bare_literal : Data → Option Tree
bare_literal values.null = Some null
bare_literal (values.boolean b) = Some (boolean b)
bare_literal (values.number z) = number_literal z
bare_literal (values.text s) = Some (text s)
bare_literal (values.color c) = None
bare_literal (values.list ds) = None
bare_literal (values.map ps) = None
