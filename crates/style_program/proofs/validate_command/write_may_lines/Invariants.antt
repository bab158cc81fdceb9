use Rattle.std.proofs.Common.{◌≡◌, ◌++◌, drop, flat_map, map}
use Rattle.style_rules.specs.CodeView.{may_seen}
use Rattle.style_program.specs.ValidateRun.{may_line}
use Rattle.style_program.proofs.validate_command.write_may_lines.Given as goal

abbrev pub invariant-loop-line : goal.invariant-loop-line
invariant-loop-line l =
    l.out.items ++ flat_map may_line (map may_seen (drop l.line-index l.lines)) ≡ l.fn.out.items ++ flat_map may_line (map may_seen l.lines)
