use Rattle.std.proofs.Common.{◌≡◌, ◌++◌, drop}
use Rattle.legacy_functions.specs.Zooms.{zooms_seen}
use Rattle.legacy_functions.proofs.stops.rule_zooms.Given as goal

abbrev pub invariant-loop-rule : goal.invariant-loop-rule
invariant-loop-rule l = l.zooms.items ++ zooms_seen (drop l.rule-index l.rules) ≡ zooms_seen l.rules
