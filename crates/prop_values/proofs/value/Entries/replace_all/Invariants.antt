use Rattle.std.proofs.Common.{◌≡◌}
use Rattle.std.specs.Vec.Iter.{into_iter_items}
use Rattle.prop_values.specs.MergeSteps.{all_replaced}
use Rattle.prop_values.specs.ViewParts.{entries_view}
use Rattle.prop_values.proofs.value.Entries.replace_all.Given as goal

abbrev pub invariant-loop-entry : goal.invariant-loop-entry
invariant-loop-entry l = all_replaced l.self (entries_view (into_iter_items l.entry-iterator)) ≡ all_replaced l.fn.self l.fn.members
