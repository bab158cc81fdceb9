use Rattle.tile_reader.proofs.laws.messages_are_cut.Goals as goal
use Rattle.tile_reader.proofs.TileLaws as laws

pub returns : goal.returns
returns c = laws.messages_are_cut
