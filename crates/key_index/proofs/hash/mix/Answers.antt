use Rattle.std.proofs.Common.{rules}
use Rattle.key_index.specs.Hash.{mixed}
use Rattle.key_index.proofs.hash.mix.Goals as goal

pub returns : goal.returns
unfolding mixed
returns c = search rules
