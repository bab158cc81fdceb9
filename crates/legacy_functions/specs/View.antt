-- Which function a value of the program is.
use Rattle.std.specs.Prelude.{◌≡◌, map, Option, Some, None, option_map, Result, Ok, Err}
use Rattle.property_tables.specs.RowView.{row_seen}
use Rattle.property_tables.specs.Rows.{RowData}
use Rattle.legacy_functions.specs.declared.function.Body.{Body as BodyValue}
use Rattle.legacy_functions.specs.declared.function.Body.TheVariants as bodies
use Rattle.legacy_functions.specs.declared.function.Function.{Function as FunctionValue}
use Rattle.legacy_functions.specs.declared.function.FunctionFault.{FunctionFault}
use Rattle.legacy_functions.specs.declared.function.FunctionReading.{FunctionReading}
use Rattle.legacy_functions.specs.declared.function.FunctionReading.TheVariants.{Inside, Outside}
use Rattle.legacy_functions.specs.declared.function.PropertyRule.{PropertyRule as RuleValue}
use Rattle.legacy_functions.specs.declared.function.PropertyRule.TheVariants as rules
use Rattle.legacy_functions.specs.declared.function.Way.{Way as WayValue}
use Rattle.legacy_functions.specs.declared.function.Way.TheVariants as ways
use Rattle.legacy_functions.specs.declared.function.ZoomRule.{ZoomRule}
use Rattle.legacy_functions.specs.Function.{Spelled, Way, even, curved, stepped, PropertyRule, numeric, categorical}
use Rattle.legacy_functions.specs.Function.{Body, plain, zoomed, identity, Function}
use Rattle.legacy_functions.specs.Parts.{spelled_seen, output_seen, stop_seen, category_seen}

abbrev pub way_seen : WayValue → Way
way_seen ways.Even = even
way_seen (ways.Curved n) = curved (spelled_seen n)
way_seen ways.Stepped = stepped

-- a rule of a function that goes over numbers in this way
abbrev pub rule_seen : Way → RuleValue → PropertyRule
rule_seen way (rules.Numeric stops) = numeric way (map stop_seen stops)
rule_seen way (rules.Categorical stops) = categorical (map category_seen stops)

abbrev pub zoom_rule_seen : Way → ZoomRule → Spelled × PropertyRule
zoom_rule_seen way r = (spelled_seen r.zoom, rule_seen way r.rule)

abbrev pub body_seen : Way → BodyValue → Body
body_seen way (bodies.Plain rule) = plain (rule_seen way rule)
body_seen way (bodies.Zoomed zs) = zoomed (map (zoom_rule_seen way) zs)
body_seen way bodies.Identity = identity

-- The function of a value. Source: own.
abbrev pub function_of : FunctionValue → Function
function_of f = record {
  property = f.property;
  fallback = option_map output_seen f.fallback;
  body = body_seen (way_seen f.way) f.body;
}

-- The row that it was read for.
abbrev pub row_of : FunctionValue → RowData
row_of f = row_seen f.row

-- what was read, as definitions see it
abbrev pub inside_seen : FunctionReading → Option Function
inside_seen (Inside f) = Some (function_of f)
inside_seen Outside = None

abbrev pub reading_seen : Result FunctionReading FunctionFault → Option (Option Function)
reading_seen (Ok reading) = Some (inside_seen reading)
reading_seen (Err fault) = None

abbrev pub IsOfRow : RowData → FunctionReading → Type 0
IsOfRow row (Inside f) = row_of f ≡ row
IsOfRow row Outside = Unit {0}
