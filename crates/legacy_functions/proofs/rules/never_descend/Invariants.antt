use Rattle.std.proofs.Common.{◌≡◌, drop}
use Rattle.std.specs.Prelude.{None, map}
use Rattle.legacy_functions.specs.Form.{never_descend}
use Rattle.legacy_functions.specs.Parts.{category_seen}
use Rattle.legacy_functions.proofs.rules.never_descend.Given as goal

abbrev pub invariant-loop-stop : goal.invariant-loop-stop
invariant-loop-stop l = never_descend l.before (map category_seen (drop l.stop-index l.stops)) ≡ never_descend None (map category_seen l.stops)
