use Rattle.std.proofs.Common.{◌≡◌, drop, take, length}
use Rattle.prop_values.specs.MergeSteps.{with_keys}
use Rattle.prop_values.specs.ViewParts.{entries_view}
use Rattle.prop_values.proofs.value.Entries.add_keys.Given as goal

abbrev pub invariant-loop-entry : goal.invariant-loop-entry
invariant-loop-entry l = record {
  rest : with_keys l.self (entries_view (drop l.entry-index l.members)) ≡ with_keys l.fn.self (entries_view l.members);
  first : take (length l.fn.self) l.self ≡ l.fn.self;
}
