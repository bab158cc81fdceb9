-- What each operator has of its own, in the order of the table. Source: MapLibre style specification, version
-- 8, expressions, with types as this project takes them.
use Rattle.std.specs.Prelude.{ℕ, ◌+◌, List, [], ◌∷◌, length, drop, Bool, true, false, not, ◌||◌, Option, Some, None}
use Rattle.std.specs.Prelude.{if◌then◌else◌}
use Rattle.prop_values.specs.Data.{Data}
use Rattle.prop_values.specs.Faults.{no_faults, one_fault}
use Rattle.prop_values.specs.declared.fault.EvalFault.TheVariants.{Overflow, ColorRange}
use Rattle.prop_values.specs.declared.kinds.Item.TheVariants as items
use Rattle.prop_values.specs.declared.kinds.Kind.{Kind}
use Rattle.prop_values.specs.declared.kinds.Kind.TheVariants as kinds
use Rattle.prop_values.specs.declared.kinds.Want.{Want}
use Rattle.expr_syntax.specs.declared.expression.Operator.{Operator}
use Rattle.expr_syntax.specs.declared.expression.Operator.TheVariants.{Array, Boolean, Number, String, Object}
use Rattle.expr_syntax.specs.declared.expression.Operator.TheVariants.{ToBoolean, ToColor, ToNumber, ToString, TypeOf}
use Rattle.expr_syntax.specs.declared.expression.Operator.TheVariants.{Get, Has, Properties, Id, GeometryType}
use Rattle.expr_syntax.specs.declared.expression.Operator.TheVariants.{FeatureState, At, In, IndexOf, Length, Slice}
use Rattle.expr_syntax.specs.declared.expression.Operator.TheVariants.{Not, Equal, NotEqual, Less, LessOrEqual, Greater}
use Rattle.expr_syntax.specs.declared.expression.Operator.TheVariants.{GreaterOrEqual, All, Any, Case, Match, Coalesce}
use Rattle.expr_syntax.specs.declared.expression.Operator.TheVariants.{Step, Interpolate, Let, Var, Zoom, Concat, Rgb}
use Rattle.expr_syntax.specs.declared.expression.Operator.TheVariants.{Rgba, ToRgba, Add, Multiply, Subtract, Divide}
use Rattle.expr_syntax.specs.declared.expression.Operator.TheVariants.{Remainder, Abs, Ceil, Floor, Round, Min, Max}
use Rattle.expr_syntax.specs.declared.expression.Operator.TheVariants.{Image, IsSupportedScript, Format}
use Rattle.expr_syntax.specs.Operators.{item_or_any}
use Rattle.expr_syntax.specs.Rows.{is_last, is_even}
use Rattle.expr_syntax.specs.declared.parts.Labelled.{Labelled}
use Rattle.expr_syntax.specs.declared.parts.FormatPiece.{FormatPiece}
use Rattle.expr_syntax.specs.declared.parts.Role.{Role}
use Rattle.expr_syntax.specs.declared.parts.Role.TheVariants.{Content, Scale, Font, Color}
use Rattle.expr_types.specs.Arithmetics.{own_subtract, own_divide, own_remainder}
use Rattle.expr_types.specs.Assertions.{own_array, own_asserted, own_to_color, own_to_number}
use Rattle.expr_types.specs.Comparing.{own_equal, own_ordered, has_such_labels, unless_comparable}
use Rattle.expr_types.specs.Literals.{count_of}
use Rattle.expr_types.specs.Own.{owns, ill_typed, one_own, two_own, common_kind}
use Rattle.expr_types.specs.Ramping.{own_ramp}
use Rattle.expr_types.specs.Sequences.{own_at, own_in, own_index_of, own_slice}
use Rattle.expr_types.specs.declared.own.Own.{Own}

-- `case`: the kinds of its outputs, which follow their conditions; the last of all is an output.
abbrev pub is_output : ℕ → ℕ → Bool
is_output m i = is_last m i || not (is_even i)

abbrev pub output_kinds : ℕ → ℕ → List Kind → List Kind
output_kinds m i [] = []
output_kinds m i (k ∷ ks) = if is_output m i then k ∷ output_kinds m (i + 1) ks else output_kinds m (i + 1) ks

-- `match`
abbrev pub own_match : List Labelled → List Kind → Own
own_match ls [] = ill_typed
own_match ls (input ∷ ks) =
    record { kind = common_kind ks; code = unless_comparable (has_such_labels input ls); faults = no_faults }

-- `format`: a list with an item for each content
abbrev pub is_content : Role → ℕ
is_content Content = 1
is_content role = 0

abbrev pub section_count : List FormatPiece → ℕ
section_count [] = 0
section_count (p ∷ ps) = is_content p.role + section_count ps

-- `interpolate` goes by the want too, and `let` and `var` by the names around them: see below.
abbrev pub plain_own : Operator → List (Option Data) → List Kind → Own
plain_own (Array i n) ls ks = one_own (own_array (item_or_any i) n) ks
plain_own Boolean ls ks = own_asserted kinds.Boolean ks
plain_own Number ls ks = own_asserted kinds.Number ks
plain_own String ls ks = own_asserted kinds.Text ks
plain_own Object ls ks = own_asserted kinds.Object ks
plain_own ToBoolean ls ks = owns kinds.Boolean no_faults
plain_own ToColor ls ks = own_to_color ls ks
plain_own ToNumber ls ks = own_to_number ks
plain_own ToString ls ks = owns kinds.Text no_faults
plain_own TypeOf ls ks = owns kinds.Text no_faults
plain_own Get ls ks = owns kinds.Any no_faults
plain_own Has ls ks = owns kinds.Boolean no_faults
plain_own Properties ls ks = owns kinds.Object no_faults
plain_own Id ls ks = owns kinds.Any no_faults
plain_own GeometryType ls ks = owns kinds.Text no_faults
plain_own FeatureState ls ks = owns kinds.Any no_faults
plain_own At ls ks = two_own own_at ks
plain_own In ls ks = two_own own_in ks
plain_own IndexOf ls ks = own_index_of ks
plain_own Length ls ks = owns kinds.Number no_faults
plain_own Slice ls ks = own_slice ks
plain_own Not ls ks = owns kinds.Boolean no_faults
plain_own Equal ls ks = two_own own_equal ks
plain_own NotEqual ls ks = two_own own_equal ks
plain_own Less ls ks = two_own own_ordered ks
plain_own LessOrEqual ls ks = two_own own_ordered ks
plain_own Greater ls ks = two_own own_ordered ks
plain_own GreaterOrEqual ls ks = two_own own_ordered ks
plain_own All ls ks = owns kinds.Boolean no_faults
plain_own Any ls ks = owns kinds.Boolean no_faults
plain_own Case ls ks = owns (common_kind (output_kinds (length ks) 0 ks)) no_faults
plain_own (Match labels) ls ks = own_match labels ks
plain_own Coalesce ls ks = owns (common_kind ks) no_faults
plain_own (Step inputs) ls ks = owns (common_kind (drop 1 ks)) no_faults
plain_own (Interpolate r) ls ks = ill_typed
plain_own (Let names) ls ks = ill_typed
plain_own (Var name) ls ks = ill_typed
plain_own Zoom ls ks = owns kinds.Number no_faults
plain_own Concat ls ks = owns kinds.Text no_faults
plain_own Rgb ls ks = owns kinds.Color (one_fault ColorRange)
plain_own Rgba ls ks = owns kinds.Color (one_fault ColorRange)
plain_own ToRgba ls ks = owns (kinds.List items.Number (Some 4)) no_faults
plain_own Add ls ks = owns kinds.Number (one_fault Overflow)
plain_own Multiply ls ks = owns kinds.Number (one_fault Overflow)
plain_own Subtract ls ks = own_subtract ks
plain_own Divide ls ks = own_divide ls
plain_own Remainder ls ks = own_remainder ls
plain_own Abs ls ks = owns kinds.Number no_faults
plain_own Ceil ls ks = owns kinds.Number no_faults
plain_own Floor ls ks = owns kinds.Number no_faults
plain_own Round ls ks = owns kinds.Number no_faults
plain_own Min ls ks = owns kinds.Number no_faults
plain_own Max ls ks = owns kinds.Number no_faults
plain_own Image ls ks = owns kinds.Image no_faults
plain_own IsSupportedScript ls ks = owns kinds.Boolean no_faults
plain_own (Format pieces) ls ks = owns (kinds.List items.Any (count_of (section_count pieces))) no_faults

abbrev pub own : Operator → Want → List (Option Data) → List Kind → Own
own (Interpolate r) want ls ks = own_ramp r.0 r.1 want ls ks
own op want ls ks = plain_own op ls ks
