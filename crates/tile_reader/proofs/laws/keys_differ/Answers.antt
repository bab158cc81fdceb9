use Rattle.tile_reader.proofs.laws.keys_differ.Goals as goal
use Rattle.tile_reader.proofs.TileLaws as laws

pub returns : goal.returns
returns c = laws.keys_differ
