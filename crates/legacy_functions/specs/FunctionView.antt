-- What clauses see of a function and of a feature.
use Rattle.std.specs.Prelude.{List, map}
use Rattle.decimal_json.specs.Tree.{Tree}
use Rattle.prop_values.specs.Data.{Data}
use Rattle.operator_values.specs.Evaluated.{Evaluated}
use Rattle.tile_reader.specs.declared.tile.Feature.{Feature}
use Rattle.legacy_functions.specs.declared.function.Function.{Function as FunctionValue}
use Rattle.legacy_functions.specs.declared.function.NumberStop.{NumberStop}
use Rattle.legacy_functions.specs.declared.function.PropertyRule.{PropertyRule as RuleValue}
use Rattle.legacy_functions.specs.declared.function.ZoomRule.{ZoomRule}
use Rattle.legacy_functions.specs.Function.{Spelled, PropertyRule}
use Rattle.legacy_functions.specs.Meaning.{default_data, stop_results, rule_results, property_at}
use Rattle.legacy_functions.specs.ToExpression.{default_by, named_property, Branches, stop_branches}
use Rattle.legacy_functions.specs.Parts.{stop_seen}
use Rattle.legacy_functions.specs.View.{function_of, row_of, way_seen, rule_seen, zoom_rule_seen}

-- the default of a function on a feature
abbrev pub default_on : FunctionValue → Feature → Data
default_on f feature = default_data (row_of f) (function_of f) feature

abbrev pub rule_in : FunctionValue → RuleValue → PropertyRule
rule_in f rule = rule_seen (way_seen f.way) rule

abbrev pub rules_in : FunctionValue → List ZoomRule → List (Spelled × PropertyRule)
rules_in f rules = map (zoom_rule_seen (way_seen f.way)) rules

-- what the outputs of stops are on a feature
abbrev pub results_in : FunctionValue → Feature → List NumberStop → List Evaluated
results_in f feature stops = stop_results (row_of f).want feature (map stop_seen stops)

-- what the rules of zooms give on a feature
abbrev pub zoom_results_in : FunctionValue → Feature → List ZoomRule → List Evaluated
zoom_results_in f feature rules =
    rule_results (row_of f) (default_on f feature) feature (property_at f.property feature) (rules_in f rules)

-- expressions of the default, of the property, and of stops
abbrev pub default_tree : FunctionValue → Tree
default_tree f = default_by (function_of f).fallback (row_of f)

abbrev pub property_tree : FunctionValue → Tree
property_tree f = named_property f.property

abbrev pub branches_in : List NumberStop → Branches
branches_in stops = stop_branches (map stop_seen stops)
