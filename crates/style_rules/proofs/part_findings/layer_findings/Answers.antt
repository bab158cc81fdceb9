use Rattle.std.specs.Prelude.{IfOk}
use Rattle.std.proofs.Common.{◌≡◌, ◌++◌, ap, map, subst, ◌∙◌}
use Rattle.decimal_json.specs.View.{path_of, tree_of}
use Rattle.style_rules.specs.CodeView.{fields_at, finding_seen, has_name}
use Rattle.style_rules.specs.Findings.{findings_in}
use Rattle.style_rules.specs.Levels.{layer_reports}
use Rattle.style_rules.proofs.part_findings.layer_findings.Goals as goal

pub returns : goal.returns
returns c =
    let used = has_name c.args.used.now in
    let path = path_of c.args.here.now in
    let layer = tree_of c.args.layer.now in
    subst (λ reports. IfOk c.findings_of.result (λ found. map finding_seen found ≡ findings_in reports))
    (c.in_ok-report_layer.ensures
    ∙ ((λ i. c.new-reports.ensures i ++ layer_reports (fields_at c.sources_of.result) used path layer)
    ∙ ap (λ sources. layer_reports sources used path layer) c.sources_of.ensures))
    c.findings_of.ensures
