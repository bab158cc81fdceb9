-- What is reported of the properties of a layer that are not tested.
use Rattle.std.specs.Prelude.{◌≡◌, List, ◌++◌, [], Option, Some, None}
use Rattle.std.proofs.Common.{refl, sym, ap, subst, ◌∙◌}
use Rattle.std.proofs.lemmas.List.{append-nil}
use Rattle.decimal_json.specs.Tree.{Tree, Fields, no_fields, field}
use Rattle.decimal_json.specs.declared.paths.PathPart.{PathPart}
use Rattle.property_tables.specs.declared.layer_type.LayerType.{LayerType}
use Rattle.property_tables.specs.declared.property_row.Place.{Place}
use Rattle.style_rules.specs.Findings.{reports_or}
use Rattle.style_rules.specs.Levels.{fields_reports, fields_or_none, property_reports}
use Rattle.style_rules.specs.Places.{properties_mark}
use Rattle.style_rules.specs.declared.diagnostics.Diagnostic.{Diagnostic}

module _ (place : Place) (path : List PathPart) where
  none_reports : (fs : Fields) → fields_reports (property_reports None (Some place) path) fs ≡ []
  none_reports no_fields = refl
  none_reports (field k t fs) = none_reports fs

  abbrev properties_reports : Option LayerType → Tree → List Diagnostic
  properties_reports tested t = reports_or (properties_mark tested t) path (fields_reports (property_reports tested (Some place) path) (fields_or_none t))

  pub untested_reports : (tested : Option LayerType) (t : Tree) (old : List Diagnostic) → tested ≡ None →
      old ≡ old ++ reports_or (properties_mark tested t) path (fields_reports (property_reports tested (Some place) path) (fields_or_none t))
  untested_reports tested t old none =
      subst (λ l. old ≡ old ++ properties_reports l t) (sym none) (sym (ap (λ ts. old ++ ts) (none_reports (fields_or_none t)) ∙ append-nil old))
