use Rattle.style_rules.proofs.ReportLaws.{reports_next}
use Rattle.style_rules.proofs.calls.report_of.Goals as goal

pub loop-one-preserved : goal.loop-one-preserved
loop-one-preserved c = reports_next c.loop-one.yielded c.in-Some.one c.loop-one.report c.note.new.report c.loop-one.invariant c.in_ok-note.ensures
