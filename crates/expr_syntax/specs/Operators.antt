-- Operators and their names.
use Rattle.std.specs.Prelude.{ℕ, Option, Some, None}
use Rattle.std.specs.List.{slice_get}
use Rattle.prop_values.specs.declared.kinds.Item.{Item}
use Rattle.prop_values.specs.declared.kinds.Item.TheVariants as items
use Rattle.prop_values.specs.declared.kinds.Want.{Want}
use Rattle.prop_values.specs.declared.kinds.Want.TheVariants as wants
use Rattle.expr_syntax.specs.declared.parts.Role.{Role}
use Rattle.expr_syntax.specs.declared.parts.Role.TheVariants as roles
use Rattle.expr_syntax.specs.declared.parts.FormatPiece.{FormatPiece}
use Rattle.expr_syntax.specs.declared.rows.Wanted.{Wanted}
use Rattle.expr_syntax.specs.declared.rows.Wanted.TheVariants.{Own, OfNode}
use Rattle.expr_syntax.specs.Names.{row}
use Rattle.expr_syntax.specs.Rows.{wanted}
use Rattle.expr_syntax.specs.declared.names.Name.{Name}
use Rattle.expr_syntax.specs.declared.names.Name.TheVariants as names
use Rattle.expr_syntax.specs.declared.expression.Operator.{Operator}
use Rattle.expr_syntax.specs.declared.expression.Operator.TheVariants.{Array, Boolean, Number, String, Object}
use Rattle.expr_syntax.specs.declared.expression.Operator.TheVariants.{ToBoolean, ToColor, ToNumber, ToString, TypeOf}
use Rattle.expr_syntax.specs.declared.expression.Operator.TheVariants.{Get, Has, Properties, Id, GeometryType}
use Rattle.expr_syntax.specs.declared.expression.Operator.TheVariants.{FeatureState, At, In, IndexOf, Length, Slice}
use Rattle.expr_syntax.specs.declared.expression.Operator.TheVariants.{Not, Equal, NotEqual, Less, LessOrEqual, Greater}
use Rattle.expr_syntax.specs.declared.expression.Operator.TheVariants.{GreaterOrEqual, All, Any, Case, Match, Coalesce}
use Rattle.expr_syntax.specs.declared.expression.Operator.TheVariants.{Step, Interpolate, Let, Var, Zoom, Concat, Rgb}
use Rattle.expr_syntax.specs.declared.expression.Operator.TheVariants.{Rgba, ToRgba, Add, Multiply, Subtract, Divide}
use Rattle.expr_syntax.specs.declared.expression.Operator.TheVariants.{Remainder, Abs, Ceil, Floor, Round, Min, Max}
use Rattle.expr_syntax.specs.declared.expression.Operator.TheVariants.{Image, IsSupportedScript, Format}

abbrev pub operator_name : Operator → Name
operator_name (Array a b) = names.Array
operator_name Boolean = names.Boolean
operator_name Number = names.Number
operator_name String = names.String
operator_name Object = names.Object
operator_name ToBoolean = names.ToBoolean
operator_name ToColor = names.ToColor
operator_name ToNumber = names.ToNumber
operator_name ToString = names.ToString
operator_name TypeOf = names.TypeOf
operator_name Get = names.Get
operator_name Has = names.Has
operator_name Properties = names.Properties
operator_name Id = names.Id
operator_name GeometryType = names.GeometryType
operator_name FeatureState = names.FeatureState
operator_name At = names.At
operator_name In = names.In
operator_name IndexOf = names.IndexOf
operator_name Length = names.Length
operator_name Slice = names.Slice
operator_name Not = names.Not
operator_name Equal = names.Equal
operator_name NotEqual = names.NotEqual
operator_name Less = names.Less
operator_name LessOrEqual = names.LessOrEqual
operator_name Greater = names.Greater
operator_name GreaterOrEqual = names.GreaterOrEqual
operator_name All = names.All
operator_name Any = names.Any
operator_name Case = names.Case
operator_name (Match a) = names.Match
operator_name Coalesce = names.Coalesce
operator_name (Step a) = names.Step
operator_name (Interpolate a) = names.Interpolate
operator_name (Let a) = names.Let
operator_name (Var a) = names.Var
operator_name Zoom = names.Zoom
operator_name Concat = names.Concat
operator_name Rgb = names.Rgb
operator_name Rgba = names.Rgba
operator_name ToRgba = names.ToRgba
operator_name Add = names.Add
operator_name Multiply = names.Multiply
operator_name Subtract = names.Subtract
operator_name Divide = names.Divide
operator_name Remainder = names.Remainder
operator_name Abs = names.Abs
operator_name Ceil = names.Ceil
operator_name Floor = names.Floor
operator_name Round = names.Round
operator_name Min = names.Min
operator_name Max = names.Max
operator_name Image = names.Image
operator_name IsSupportedScript = names.IsSupportedScript
operator_name (Format a) = names.Format

-- the operator of a name that has no parts
abbrev pub plain_operator : Name → Option Operator
plain_operator names.Boolean = Some Boolean
plain_operator names.Number = Some Number
plain_operator names.String = Some String
plain_operator names.Object = Some Object
plain_operator names.ToBoolean = Some ToBoolean
plain_operator names.ToColor = Some ToColor
plain_operator names.ToNumber = Some ToNumber
plain_operator names.ToString = Some ToString
plain_operator names.TypeOf = Some TypeOf
plain_operator names.Get = Some Get
plain_operator names.Has = Some Has
plain_operator names.Properties = Some Properties
plain_operator names.Id = Some Id
plain_operator names.GeometryType = Some GeometryType
plain_operator names.FeatureState = Some FeatureState
plain_operator names.At = Some At
plain_operator names.In = Some In
plain_operator names.IndexOf = Some IndexOf
plain_operator names.Length = Some Length
plain_operator names.Slice = Some Slice
plain_operator names.Not = Some Not
plain_operator names.Equal = Some Equal
plain_operator names.NotEqual = Some NotEqual
plain_operator names.Less = Some Less
plain_operator names.LessOrEqual = Some LessOrEqual
plain_operator names.Greater = Some Greater
plain_operator names.GreaterOrEqual = Some GreaterOrEqual
plain_operator names.All = Some All
plain_operator names.Any = Some Any
plain_operator names.Case = Some Case
plain_operator names.Coalesce = Some Coalesce
plain_operator names.Zoom = Some Zoom
plain_operator names.Concat = Some Concat
plain_operator names.Rgb = Some Rgb
plain_operator names.Rgba = Some Rgba
plain_operator names.ToRgba = Some ToRgba
plain_operator names.Add = Some Add
plain_operator names.Multiply = Some Multiply
plain_operator names.Subtract = Some Subtract
plain_operator names.Divide = Some Divide
plain_operator names.Remainder = Some Remainder
plain_operator names.Abs = Some Abs
plain_operator names.Ceil = Some Ceil
plain_operator names.Floor = Some Floor
plain_operator names.Round = Some Round
plain_operator names.Min = Some Min
plain_operator names.Max = Some Max
plain_operator names.Image = Some Image
plain_operator names.IsSupportedScript = Some IsSupportedScript
plain_operator _ = None

-- what an argument of `format` is wanted as
abbrev pub role_want : Role → Want
role_want roles.Content = wants.Shown
role_want roles.Scale = wants.Number
role_want roles.Font = wants.List items.Text None
role_want roles.Color = wants.Color

abbrev pub piece_wanted : Option FormatPiece → Wanted
piece_wanted (Some piece) = Own (role_want piece.role)
piece_wanted None = Own wants.Any

-- What the argument k of m arguments of an operator is wanted as: the row says it, and of `format` what the
-- argument is there.
abbrev pub wanted_by : Operator → ℕ → ℕ → Wanted
wanted_by (Format pieces) m k = piece_wanted (slice_get pieces k)
wanted_by op m k = wanted (row (operator_name op)).wants m k

-- the want of an argument, in a node under a want
abbrev pub want_of : Wanted → Want → Want
want_of (Own own) want = own
want_of OfNode want = want

-- Under Shown the outputs of an `interpolate` are taken as they are, and what is between them is shown.
abbrev pub ramp_want : Want → Want
ramp_want wants.Shown = wants.Any
ramp_want want = want

-- the items that `array` asks for
abbrev pub item_or_any : Option Item → Item
item_or_any (Some item) = item
item_or_any None = items.Any
