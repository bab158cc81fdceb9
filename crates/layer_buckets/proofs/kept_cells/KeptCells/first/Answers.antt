use Rattle.layer_buckets.proofs.Keeping.{first_found, first_lacks}
use Rattle.layer_buckets.proofs.kept_cells.KeptCells.first.Goals as goal

pub returns-clause-some : goal.returns-clause-some
returns-clause-some c = first_found c.args.self.now c.args.name c.requires.sound c.first.result c.first.ensures

pub returns-clause-none : goal.returns-clause-none
returns-clause-none c = first_lacks c.args.self.now c.args.name c.requires.sound c.first.result c.first.ensures
