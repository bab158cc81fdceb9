-- How each of the names is spelled of which expressions are made. Source: own.
use Rattle.std.specs.Prelude.{ℕ, List, codes}
use Rattle.legacy_functions.specs.declared.names.CallName.{CallName}
use Rattle.legacy_functions.specs.declared.names.CallName.TheVariants as names

abbrev pub name_text : CallName → List ℕ
name_text names.Interpolate = codes "interpolate"
name_text names.Linear = codes "linear"
name_text names.Zoom = codes "zoom"
name_text names.Case = codes "case"
name_text names.Equal = codes "=="
name_text names.TypeOf = codes "typeof"
name_text names.Get = codes "get"
name_text names.Number = codes "number"
name_text names.Step = codes "step"
name_text names.Literal = codes "literal"
name_text names.Concat = codes "concat"
name_text names.Text = codes "string"
name_text names.Array = codes "array"
name_text names.Boolean = codes "boolean"
name_text names.Coalesce = codes "coalesce"
name_text names.Exponential = codes "exponential"
