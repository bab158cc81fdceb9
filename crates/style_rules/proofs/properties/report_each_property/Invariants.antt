use Rattle.std.specs.Prelude.{Some}
use Rattle.std.proofs.Common.{◌≡◌, ◌++◌, drop}
use Rattle.decimal_json.specs.View.{path_of, fields}
use Rattle.style_rules.specs.Levels.{fields_reports, property_reports}
use Rattle.style_rules.proofs.properties.report_each_property.Given as goal

abbrev pub invariant-loop-property : goal.invariant-loop-property
invariant-loop-property l =
    l.reports ++ fields_reports (property_reports (Some l.layer_type) (Some l.place) (path_of l.here)) (fields (drop l.property-index l.properties))
    ≡ l.fn.reports ++ fields_reports (property_reports (Some l.layer_type) (Some l.place) (path_of l.here)) (fields l.properties)
