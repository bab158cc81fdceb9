-- The outline of a layer, which is what is prepared of it: its literals, and of each other value only that it is
-- evaluated. Source: own.
use Rattle.std.specs.Prelude.{List, [], map}
use Rattle.prop_values.specs.Data.{boolean, null}
use Rattle.expr_syntax.specs.Term as terms
use Rattle.style_layout.specs.Forms.{LayerFilter, condition, every, legacy_filter, outside_filter}
use Rattle.style_layout.specs.Forms.{Property, PropertyValue, expression, legacy_function, literal, outside, token_text}
use Rattle.style_layout.specs.Layers.{StyleLayer}

-- ---- the value of a property

-- in place of each value that is evaluated: a text with tokens that has none
abbrev pub evaluated : PropertyValue
evaluated = token_text []

abbrev pub value_outline : PropertyValue → PropertyValue
value_outline (literal d) = literal d
value_outline (expression t) = evaluated
value_outline (legacy_function row f) = evaluated
value_outline (token_text s) = evaluated
value_outline outside = outside

-- A value that is evaluated is itself here, and in place of every other is one that is evaluated.
abbrev pub evaluated_value : PropertyValue → PropertyValue
evaluated_value (literal d) = evaluated
evaluated_value (expression t) = expression t
evaluated_value (legacy_function row f) = legacy_function row f
evaluated_value (token_text s) = token_text s
evaluated_value outside = evaluated

abbrev pub property_outline : Property → Property
property_outline p = record p { value = value_outline p.value }

-- ---- the filter of a layer

-- in place of each filter that is evaluated: a condition that is no truth value
abbrev pub evaluated_condition : LayerFilter
evaluated_condition = condition (terms.literal null)

-- a truth value is not evaluated
abbrev pub filter_outline : LayerFilter → LayerFilter
filter_outline every = every
filter_outline (condition (terms.literal (boolean b))) = condition (terms.literal (boolean b))
filter_outline (condition t) = evaluated_condition
filter_outline (legacy_filter f) = evaluated_condition
filter_outline outside_filter = outside_filter

-- A filter that is evaluated is itself here, and in place of every other is one that is evaluated.
abbrev pub evaluated_filter : LayerFilter → LayerFilter
evaluated_filter every = evaluated_condition
evaluated_filter (condition (terms.literal (boolean b))) = evaluated_condition
evaluated_filter (condition t) = condition t
evaluated_filter (legacy_filter f) = legacy_filter f
evaluated_filter outside_filter = evaluated_condition

-- ---- a layer

abbrev pub layer_outline : StyleLayer → StyleLayer
layer_outline layer = record layer {
  filter = filter_outline layer.filter;
  properties = map property_outline layer.properties;
}
