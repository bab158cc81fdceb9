use Rattle.style_rules.specs.Reports.{IsReportOf}
use Rattle.style_rules.proofs.calls.report_of.Given as goal

abbrev pub invariant-loop-one : goal.invariant-loop-one
invariant-loop-one l = IsReportOf l.yielded l.report
