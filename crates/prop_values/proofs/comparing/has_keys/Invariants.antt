use Rattle.std.proofs.Common.{◌≡◌, drop}
use Rattle.prop_values.specs.Data.{pairs_of}
use Rattle.prop_values.specs.ViewParts.{pairs}
use Rattle.prop_values.specs.Equality.{keys_in}
use Rattle.prop_values.proofs.comparing.has_keys.Given as goal

abbrev pub invariant-loop-entry : goal.invariant-loop-entry
invariant-loop-entry l = keys_in (pairs (drop l.entry-index l.entries)) (pairs_of l.map) ≡ keys_in (pairs l.entries) (pairs_of l.map)
