use Rattle.std.specs.Prelude.{codes}
use Rattle.std.proofs.Common.{◌≡◌, ◌++◌, drop}
use Rattle.decimal_json.specs.View.{path_of, fields}
use Rattle.style_rules.specs.Levels.{fields_reports, named_reports}
use Rattle.style_rules.proofs.document.report_each_global.Given as goal

abbrev pub invariant-loop-global : goal.invariant-loop-global
invariant-loop-global l =
    l.reports ++ fields_reports (named_reports (codes "state") (path_of l.here)) (fields (drop l.global-index l.globals))
    ≡ l.fn.reports ++ fields_reports (named_reports (codes "state") (path_of l.here)) (fields l.globals)
