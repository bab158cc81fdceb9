use Rattle.std.specs.Prelude.{codes}
use Rattle.std.proofs.Common.{◌≡◌, ◌++◌, drop}
use Rattle.decimal_json.specs.View.{path_of, fields}
use Rattle.style_rules.specs.Levels.{fields_reports, named_reports}
use Rattle.style_rules.proofs.document.report_each_source.Given as goal

abbrev pub invariant-loop-source : goal.invariant-loop-source
invariant-loop-source l =
    l.reports ++ fields_reports (named_reports (codes "sources") (path_of l.here)) (fields (drop l.source-index l.sources))
    ≡ l.fn.reports ++ fields_reports (named_reports (codes "sources") (path_of l.here)) (fields l.sources)
