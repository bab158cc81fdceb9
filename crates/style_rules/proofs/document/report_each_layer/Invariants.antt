use Rattle.std.specs.Prelude.{ℕ, List}
use Rattle.std.proofs.Common.{◌≡◌, ◌++◌, drop}
use Rattle.decimal_json.specs.View.{path_of, trees}
use Rattle.style_rules.specs.CodeView.{fields_at, has_name}
use Rattle.style_rules.specs.Levels.{layers_reports}
use Rattle.style_rules.specs.Places.{used_in}
use Rattle.style_rules.proofs.document.report_each_layer.Given as goal

abbrev pub invariant-loop-i : goal.invariant-loop-i
invariant-loop-i l = record {
  used : (id : List ℕ) → has_name l.used id ≡ used_in (trees l.layers) l.i id;
  reports : l.reports ++ layers_reports (fields_at l.sources) (used_in (trees l.layers)) (path_of l.here) l.i (trees (drop l.i l.layers))
      ≡ l.fn.reports ++ layers_reports (fields_at l.sources) (used_in (trees l.layers)) (path_of l.here) 0 (trees l.layers);
}
