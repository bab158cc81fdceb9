use Rattle.std.proofs.Common.{◌≡◌, ◌++◌, drop, flat_map, map}
use Rattle.style_rules.specs.CodeView.{finding_seen}
use Rattle.style_program.specs.ValidateRun.{finding_line}
use Rattle.style_program.proofs.validate_command.write_findings.Given as goal

abbrev pub invariant-loop-finding : goal.invariant-loop-finding
invariant-loop-finding l =
    l.out.items ++ flat_map finding_line (map finding_seen (drop l.finding-index l.findings)) ≡ l.fn.out.items ++ flat_map finding_line (map finding_seen l.findings)
