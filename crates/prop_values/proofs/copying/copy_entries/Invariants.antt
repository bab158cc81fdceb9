use Rattle.std.proofs.Common.{◌≡◌, take}
use Rattle.prop_values.specs.ViewParts.{entries_view}
use Rattle.prop_values.proofs.copying.copy_entries.Given as goal

abbrev pub invariant-loop-entry : goal.invariant-loop-entry
invariant-loop-entry l = l.copies ≡ entries_view (take l.entry-index l.given)
