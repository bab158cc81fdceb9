-- The rule of each operator, in the order of the table. What its arguments are wanted as is in its row.
-- Source: MapLibre style specification, version 8, expressions.
use Rattle.std.specs.Prelude.{ℕ, ℤ, List, [], ◌∷◌, true, false, Option, Some, None, Ok, Err}
use Rattle.fixed_num.specs.Number.{absolute, floor_of, ceil_of, round_of}
use Rattle.prop_values.specs.Data.{Data, null, boolean, number, text, map, pairs_of}
use Rattle.prop_values.specs.declared.fault.EvalFault.TheVariants.{WrongType, NotColor, NotNumberText}
use Rattle.prop_values.specs.declared.kinds.Item.{Item}
use Rattle.prop_values.specs.declared.outcome.Curve.{Curve}
use Rattle.property_tables.specs.Fitting.{fit_list}
use Rattle.expr_syntax.specs.declared.expression.Operator.{Operator}
use Rattle.expr_syntax.specs.declared.expression.Operator.TheVariants.{Array, Boolean, Number, String, Object}
use Rattle.expr_syntax.specs.declared.expression.Operator.TheVariants.{ToBoolean, ToColor, ToNumber, ToString, TypeOf}
use Rattle.expr_syntax.specs.declared.expression.Operator.TheVariants.{Get, Has, Properties, Id, GeometryType}
use Rattle.expr_syntax.specs.declared.expression.Operator.TheVariants.{FeatureState, At, In, IndexOf, Length, Slice}
use Rattle.expr_syntax.specs.declared.expression.Operator.TheVariants.{Not, Equal, NotEqual, Less, LessOrEqual, Greater}
use Rattle.expr_syntax.specs.declared.expression.Operator.TheVariants.{GreaterOrEqual, All, Any, Case, Match, Coalesce}
use Rattle.expr_syntax.specs.declared.expression.Operator.TheVariants.{Step, Interpolate, Let, Var, Zoom, Concat, Rgb}
use Rattle.expr_syntax.specs.declared.expression.Operator.TheVariants.{Rgba, ToRgba, Add, Multiply, Subtract, Divide}
use Rattle.expr_syntax.specs.declared.expression.Operator.TheVariants.{Remainder, Abs, Ceil, Floor, Round, Min, Max}
use Rattle.expr_syntax.specs.declared.expression.Operator.TheVariants.{Image, IsSupportedScript, Format}
use Rattle.expr_syntax.specs.declared.parts.Labelled.{Labelled}
use Rattle.expr_syntax.specs.Operators.{item_or_any}
use Rattle.tile_reader.specs.ShapeName.{shape_name}
use Rattle.operator_values.specs.Evaluated.{Evaluated}
use Rattle.operator_values.specs.Arithmetic.{sum_of, product_of, difference_of, quotient_of, remainder_of, of_number}
use Rattle.operator_values.specs.Arithmetic.{least_of, greatest_of}
use Rattle.operator_values.specs.Colors.{rgba_of, parts_of}
use Rattle.operator_values.specs.Comparisons.{equal_of, different_of, ordered_of, is_less, is_less_or_equal, is_greater}
use Rattle.operator_values.specs.Comparisons.{is_greater_or_equal}
use Rattle.operator_values.specs.Sequences.{at_of, in_of, index_of_of, length_of, slice_of}
use Rattle.operator_values.specs.Conversions.{truth_of, text_of, kind_of, negation_of}
use Rattle.operator_values.specs.Texts.{concat_of}
use Rattle.eval_face.specs.Decisions.{if_boolean, if_number, if_text, if_object, if_color, if_readable, if_false}
use Rattle.eval_face.specs.Decisions.{if_true, if_there}
use Rattle.eval_face.specs.Lookups.{get_of, has_of, state_at, id_value, image_of, script_of}
use Rattle.eval_face.specs.Sections.{format_of}
use Rattle.eval_face.specs.World.{World}

pub data Rule : Type 0 where
  -- all arguments are evaluated, and their values decide
  each : (World → List Data → Evaluated) → Rule
  -- the first argument that decides, or the other value where none does
  deciding : (Data → Option Data) → Evaluated → Rule
  -- `case`, `match`, `step` and `interpolate`
  cases : Rule
  labels : List Labelled → Rule
  stops : List ℤ → Rule
  ramp : Curve → List ℤ → Rule
  -- `let` and `var`
  bindings : List (List ℕ) → Rule
  variable : List ℕ → Rule

-- an operator that reads nothing of the world
abbrev pub plainly : (List Data → Evaluated) → Rule
plainly apply = each (λ world ds. apply ds)

-- one without arguments
abbrev pub of_none : (World → Data) → Rule
of_none value = each (λ world ds. Ok (value world))

-- `array`: a list of these items, and of so many where a number is given
abbrev pub array_of : Option Item → Option ℕ → List Data → Evaluated
array_of item length (d ∷ []) = fit_list (item_or_any item) length d
array_of item length _ = Err WrongType

abbrev pub rule_of : Operator → Rule
rule_of (Array item length) = plainly (array_of item length)
rule_of Boolean = deciding if_boolean (Err WrongType)
rule_of Number = deciding if_number (Err WrongType)
rule_of String = deciding if_text (Err WrongType)
rule_of Object = deciding if_object (Err WrongType)
rule_of ToBoolean = plainly truth_of
rule_of ToColor = deciding if_color (Err NotColor)
rule_of ToNumber = deciding if_readable (Err NotNumberText)
rule_of ToString = plainly text_of
rule_of TypeOf = plainly kind_of
rule_of Get = each (λ world. get_of world.properties)
rule_of Has = each (λ world. has_of world.properties)
rule_of Properties = of_none (λ world. map (pairs_of world.properties))
rule_of Id = of_none (λ world. id_value world.id)
rule_of GeometryType = of_none (λ world. text (shape_name world.shape))
rule_of FeatureState = each (λ world. state_at world.state)
rule_of At = plainly at_of
rule_of In = plainly in_of
rule_of IndexOf = plainly index_of_of
rule_of Length = plainly length_of
rule_of Slice = plainly slice_of
rule_of Not = plainly negation_of
rule_of Equal = plainly equal_of
rule_of NotEqual = plainly different_of
rule_of Less = plainly (ordered_of is_less)
rule_of LessOrEqual = plainly (ordered_of is_less_or_equal)
rule_of Greater = plainly (ordered_of is_greater)
rule_of GreaterOrEqual = plainly (ordered_of is_greater_or_equal)
rule_of All = deciding if_false (Ok (boolean true))
rule_of Any = deciding if_true (Ok (boolean false))
rule_of Case = cases
rule_of (Match ls) = labels ls
rule_of Coalesce = deciding if_there (Ok null)
rule_of (Step inputs) = stops inputs
rule_of (Interpolate r) = ramp r.0 r.1
rule_of (Let names) = bindings names
rule_of (Var name) = variable name
rule_of Zoom = of_none (λ world. number world.zoom)
rule_of Concat = plainly concat_of
rule_of Rgb = plainly rgba_of
rule_of Rgba = plainly rgba_of
rule_of ToRgba = plainly parts_of
rule_of Add = plainly sum_of
rule_of Multiply = plainly product_of
rule_of Subtract = plainly difference_of
rule_of Divide = plainly quotient_of
rule_of Remainder = plainly remainder_of
rule_of Abs = plainly (of_number absolute)
rule_of Ceil = plainly (of_number ceil_of)
rule_of Floor = plainly (of_number floor_of)
rule_of Round = plainly (of_number round_of)
rule_of Min = plainly least_of
rule_of Max = plainly greatest_of
rule_of Image = each (λ world. image_of world.has_image)
rule_of IsSupportedScript = each (λ world. script_of world.is_supported)
rule_of (Format pieces) = plainly (format_of pieces)
