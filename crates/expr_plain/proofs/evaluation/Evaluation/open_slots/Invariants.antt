use Rattle.std.proofs.Common.{◌≡◌, ◌++◌, drop}
use Rattle.expr_plain.specs.Slots.{waiting}
use Rattle.expr_plain.proofs.evaluation.Evaluation.open_slots.Given as goal

abbrev pub invariant-loop-binding : goal.invariant-loop-binding
invariant-loop-binding l = record {
  slots : l.self.slots.items ++ waiting (drop l._binding-index l.bindings) ≡ l.fn.self.slots.items ++ waiting l.bindings;
  values : l.self.values ≡ l.fn.self.values;
}
