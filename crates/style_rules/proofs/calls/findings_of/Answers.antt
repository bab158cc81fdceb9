use Rattle.std.proofs.Common.{[], ◌∷◌, ◌++◌, ap, sym, ◌∙◌}
use Rattle.style_rules.specs.Findings.{findings_in}
use Rattle.style_rules.proofs.ReportLaws.{findings_append}
use Rattle.style_rules.proofs.calls.findings_of.Goals as goal

pub loop-one-preserved : goal.loop-one-preserved
loop-one-preserved c =
    let one = c.in-Some.one in
    c.in_ok-note_finding.ensures
    ∙ (ap (λ fs. fs ++ findings_in (one ∷ [])) c.loop-one.invariant ∙ sym (findings_append c.loop-one.yielded one))
