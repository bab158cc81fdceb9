-- What stays where the evaluator is borrowed.
use Rattle.std.specs.Borrow.{Lends, MutBor, Fml, RattleType}
use Rattle.layer_buckets.specs.declared.buckets.Buckets.{Buckets}
use Rattle.layer_buckets.specs.contracts.buckets.Buckets.{the_row}

module _ (E : RattleType) (b : MutBor (Buckets E.Denot)) where
  -- all but the evaluator stays
  abbrev pub LendsEvaluator : MutBor E.Denot → Fml
  LendsEvaluator r = Lends (the_row E) E b r (λ w. record b.now { evaluator = w })
