use Rattle.std.proofs.Common.{◌≡◌, map}
use Rattle.style_rules.specs.CodeView.{finding_seen}
use Rattle.style_rules.specs.Findings.{findings_in}
use Rattle.style_rules.proofs.calls.findings_of.Given as goal

abbrev pub invariant-loop-one : goal.invariant-loop-one
invariant-loop-one l = map finding_seen l.found ≡ findings_in l.yielded
