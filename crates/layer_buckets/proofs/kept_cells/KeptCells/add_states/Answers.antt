use Rattle.std.proofs.Common.{refl}
use Rattle.layer_buckets.proofs.Keeping.{keeping_wider}
use Rattle.layer_buckets.proofs.kept_cells.KeptCells.add_states.Goals as goal

pub returns-clause-keeping : goal.returns-clause-keeping
returns-clause-keeping c = keeping_wider c.args.self.now c.args.self.now.columns c.add_states.new.self c.requires c.add_states.ensures.wider c.add_states.ensures.counted (λ p. refl) (λ p s e. refl)
