-- The table of operators, a row for each name, in its order. Source: MapLibre style specification, version 8,
-- expressions.
use Rattle.std.specs.Prelude.{ℕ, List, [], ◌∷◌, codes, Option, Some, None, if◌then◌else◌}
use Rattle.std.specs.Str.{bytes_eq}
use Rattle.prop_values.specs.declared.kinds.Want.TheVariants as wants
use Rattle.prop_values.specs.declared.kinds.Item.TheVariants as items
use Rattle.expr_syntax.specs.declared.names.Name.{Name}
use Rattle.expr_syntax.specs.declared.names.Name.TheVariants.{Literal, Array, Boolean, Number, String, Object}
use Rattle.expr_syntax.specs.declared.names.Name.TheVariants.{ToBoolean, ToColor, ToNumber, ToString, TypeOf, Get, Has}
use Rattle.expr_syntax.specs.declared.names.Name.TheVariants.{Properties, Id, GeometryType, FeatureState, At, In}
use Rattle.expr_syntax.specs.declared.names.Name.TheVariants.{IndexOf, Length, Slice, Not, Equal, NotEqual, Less}
use Rattle.expr_syntax.specs.declared.names.Name.TheVariants.{LessOrEqual, Greater, GreaterOrEqual, All, Any, Case}
use Rattle.expr_syntax.specs.declared.names.Name.TheVariants.{Match, Coalesce, Step, Interpolate, Let, Var, Zoom}
use Rattle.expr_syntax.specs.declared.names.Name.TheVariants.{Concat, Rgb, Rgba, ToRgba, Add, Multiply, Subtract}
use Rattle.expr_syntax.specs.declared.names.Name.TheVariants.{Divide, Remainder, Abs, Ceil, Floor, Round, Min, Max}
use Rattle.expr_syntax.specs.declared.names.Name.TheVariants.{Image, IsSupportedScript, GlobalState, Format, Upcase}
use Rattle.expr_syntax.specs.declared.names.Name.TheVariants.{Downcase, Collator, ResolvedLocale, NumberFormat, Within}
use Rattle.expr_syntax.specs.declared.names.Name.TheVariants.{Distance, InterpolateHcl, InterpolateLab, Power, Sqrt, Ln}
use Rattle.expr_syntax.specs.declared.names.Name.TheVariants.{Log10, Log2, Sin, Cos, Tan, Asin, Acos, Atan, E, Pi, Ln2}
use Rattle.expr_syntax.specs.declared.names.Name.TheVariants.{HeatmapDensity, LineProgress, Accumulated}
use Rattle.expr_syntax.specs.declared.rows.Arity.TheVariants.{Exactly, Between, AtLeast, OddFrom, EvenFrom}
use Rattle.expr_syntax.specs.declared.rows.Wants.TheVariants as wanting
use Rattle.expr_syntax.specs.declared.rows.Wants.TheVariants.{Each, Then, Third, Conditions, Input}
use Rattle.expr_syntax.specs.declared.rows.ElementLayout.TheVariants as layouts
use Rattle.expr_syntax.specs.declared.rows.Manner.TheVariants as manners
use Rattle.expr_syntax.specs.declared.rows.Reads.TheVariants as reads
use Rattle.expr_syntax.specs.Rows.{OperatorRow, plain, outside}

-- What the table says of an operator: its name as it is written, how many elements may follow it, and what
-- its arguments are wanted as; where it differs from a plain operator, how its elements are laid out, which
-- argument has to be a text or a list, how the arguments are evaluated, and what it reads of the world.
abbrev pub row : Name → OperatorRow
row Literal = record (plain (codes "literal") (Exactly 1) (Each wants.Any)) { layout = layouts.Value }
row Array = record (plain (codes "array") (Between 1 3) (Each wants.Any)) { layout = layouts.Items }
row Boolean = record (plain (codes "boolean") (AtLeast 1) (Each wants.Any)) { manner = manners.Deciding }
row Number = record (plain (codes "number") (AtLeast 1) (Each wants.Any)) { manner = manners.Deciding }
row String = record (plain (codes "string") (AtLeast 1) (Each wants.Any)) { manner = manners.Deciding }
row Object = record (plain (codes "object") (AtLeast 1) (Each wants.Any)) { manner = manners.Deciding }
row ToBoolean = plain (codes "to-boolean") (Exactly 1) (Each wants.Any)
row ToColor = record (plain (codes "to-color") (AtLeast 1) (Each wants.Any)) { manner = manners.Deciding }
row ToNumber = record (plain (codes "to-number") (AtLeast 1) (Each wants.Any)) { manner = manners.Deciding }
row ToString = plain (codes "to-string") (Exactly 1) (Each wants.Any)
row TypeOf = plain (codes "typeof") (Exactly 1) (Each wants.Any)
row Get = record (plain (codes "get") (Between 1 2) (Then wants.Text wants.Object)) { reads = reads.FeatureAlone }
row Has = record (plain (codes "has") (Between 1 2) (Then wants.Text wants.Object)) { reads = reads.FeatureAlone }
row Properties = record (plain (codes "properties") (Exactly 0) (Each wants.Any)) { reads = reads.Feature }
row Id = record (plain (codes "id") (Exactly 0) (Each wants.Any)) { reads = reads.Feature }
row GeometryType = record (plain (codes "geometry-type") (Exactly 0) (Each wants.Any)) { reads = reads.Feature }
row FeatureState = record (plain (codes "feature-state") (Exactly 1) (Each wants.Text)) { reads = reads.State }
row At = plain (codes "at") (Exactly 2) (Then wants.Number (wants.List items.Any None))
row In = record (plain (codes "in") (Exactly 2) (Each wants.Any)) { sequence = Some 1 }
row IndexOf = record (plain (codes "index-of") (Between 2 3) (Third wants.Any wants.Any wants.Number))
    { sequence = Some 1 }
row Length = record (plain (codes "length") (Exactly 1) (Each wants.Any)) { sequence = Some 0 }
row Slice = record (plain (codes "slice") (Between 2 3) (Then wants.Any wants.Number)) { sequence = Some 0 }
row Not = plain (codes "!") (Exactly 1) (Each wants.Boolean)
row Equal = plain (codes "==") (Exactly 2) (Each wants.Any)
row NotEqual = plain (codes "!=") (Exactly 2) (Each wants.Any)
row Less = plain (codes "<") (Exactly 2) (Each wants.Any)
row LessOrEqual = plain (codes "<=") (Exactly 2) (Each wants.Any)
row Greater = plain (codes ">") (Exactly 2) (Each wants.Any)
row GreaterOrEqual = plain (codes ">=") (Exactly 2) (Each wants.Any)
row All = record (plain (codes "all") (AtLeast 0) (Each wants.Boolean)) { manner = manners.Deciding }
row Any = record (plain (codes "any") (AtLeast 0) (Each wants.Boolean)) { manner = manners.Deciding }
row Case = record (plain (codes "case") (OddFrom 3) Conditions) { layout = layouts.Cases; manner = manners.Branches }
row Match = record (plain (codes "match") (EvenFrom 4) (Input wants.Any))
    { layout = layouts.Labels; manner = manners.Branches }
row Coalesce = record (plain (codes "coalesce") (AtLeast 1) (Each wants.Any))
    { layout = layouts.Choices; manner = manners.Deciding }
row Step = record (plain (codes "step") (EvenFrom 4) (Input wants.Number))
    { layout = layouts.Stops; manner = manners.Branches }
row Interpolate =
    record (plain (codes "interpolate") (EvenFrom 4) (Input wants.Number))
    { layout = layouts.Ramp; manner = manners.Branches }
row Let = record (plain (codes "let") (OddFrom 3) wanting.Bindings)
    { layout = layouts.Bindings; manner = manners.Names }
row Var = record (plain (codes "var") (Exactly 1) (Each wants.Any))
    { layout = layouts.Variable; manner = manners.Names }
row Zoom = record (plain (codes "zoom") (Exactly 0) (Each wants.Any)) { reads = reads.Zoom }
row Concat = plain (codes "concat") (AtLeast 0) (Each wants.Any)
row Rgb = plain (codes "rgb") (Between 3 4) (Each wants.Number)
row Rgba = plain (codes "rgba") (Between 3 4) (Each wants.Number)
row ToRgba = plain (codes "to-rgba") (Exactly 1) (Each wants.Color)
row Add = plain (codes "+") (AtLeast 0) (Each wants.Number)
row Multiply = plain (codes "*") (AtLeast 0) (Each wants.Number)
row Subtract = plain (codes "-") (Between 1 2) (Each wants.Number)
row Divide = plain (codes "/") (Exactly 2) (Each wants.Number)
row Remainder = plain (codes "%") (Exactly 2) (Each wants.Number)
row Abs = plain (codes "abs") (Exactly 1) (Each wants.Number)
row Ceil = plain (codes "ceil") (Exactly 1) (Each wants.Number)
row Floor = plain (codes "floor") (Exactly 1) (Each wants.Number)
row Round = plain (codes "round") (Exactly 1) (Each wants.Number)
row Min = plain (codes "min") (AtLeast 1) (Each wants.Number)
row Max = plain (codes "max") (AtLeast 1) (Each wants.Number)
row Image = record (plain (codes "image") (Exactly 1) (Each wants.Text)) { reads = reads.Images }
row IsSupportedScript = plain (codes "is-supported-script") (Exactly 1) (Each wants.Text)
row GlobalState = record (plain (codes "global-state") (Exactly 1) (Each wants.Any)) { layout = layouts.Global }
row Format = record (plain (codes "format") (AtLeast 1) (Each wants.Shown)) { layout = layouts.Sections }
row Upcase = outside (codes "upcase")
row Downcase = outside (codes "downcase")
row Collator = outside (codes "collator")
row ResolvedLocale = outside (codes "resolved-locale")
row NumberFormat = outside (codes "number-format")
row Within = outside (codes "within")
row Distance = outside (codes "distance")
row InterpolateHcl = outside (codes "interpolate-hcl")
row InterpolateLab = outside (codes "interpolate-lab")
row Power = outside (codes "^")
row Sqrt = outside (codes "sqrt")
row Ln = outside (codes "ln")
row Log10 = outside (codes "log10")
row Log2 = outside (codes "log2")
row Sin = outside (codes "sin")
row Cos = outside (codes "cos")
row Tan = outside (codes "tan")
row Asin = outside (codes "asin")
row Acos = outside (codes "acos")
row Atan = outside (codes "atan")
row E = outside (codes "e")
row Pi = outside (codes "pi")
row Ln2 = outside (codes "ln2")
row HeatmapDensity = outside (codes "heatmap-density")
row LineProgress = outside (codes "line-progress")
row Accumulated = outside (codes "accumulated")

-- the names in the order of the table
abbrev pub names : List Name
names =
    Literal ∷ Array ∷ Boolean ∷ Number ∷ String ∷ Object ∷ ToBoolean ∷ ToColor ∷ ToNumber ∷ ToString ∷
    TypeOf ∷ Get ∷ Has ∷ Properties ∷ Id ∷ GeometryType ∷ FeatureState ∷ At ∷ In ∷ IndexOf ∷ Length ∷ Slice ∷
    Not ∷ Equal ∷ NotEqual ∷ Less ∷ LessOrEqual ∷ Greater ∷ GreaterOrEqual ∷ All ∷ Any ∷ Case ∷ Match ∷
    Coalesce ∷ Step ∷ Interpolate ∷ Let ∷ Var ∷ Zoom ∷ Concat ∷ Rgb ∷ Rgba ∷ ToRgba ∷ Add ∷ Multiply ∷
    Subtract ∷ Divide ∷ Remainder ∷ Abs ∷ Ceil ∷ Floor ∷ Round ∷ Min ∷ Max ∷ Image ∷ IsSupportedScript ∷
    GlobalState ∷ Format ∷ Upcase ∷ Downcase ∷ Collator ∷ ResolvedLocale ∷ NumberFormat ∷ Within ∷ Distance ∷
    InterpolateHcl ∷ InterpolateLab ∷ Power ∷ Sqrt ∷ Ln ∷ Log10 ∷ Log2 ∷ Sin ∷ Cos ∷ Tan ∷ Asin ∷ Acos ∷
    Atan ∷ E ∷ Pi ∷ Ln2 ∷ HeatmapDensity ∷ LineProgress ∷ Accumulated ∷
    []

abbrev pub first_named : List ℕ → List Name → Option Name
first_named text [] = None
first_named text (n ∷ ns) = if bytes_eq (row n).text text then Some n else first_named text ns

-- the name that a text is
abbrev pub name_of : List ℕ → Option Name
name_of text = first_named text names
