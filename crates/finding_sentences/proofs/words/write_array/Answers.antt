use Rattle.finding_sentences.proofs.Appending.{two_pieces}
use Rattle.finding_sentences.proofs.words.write_array.Goals as goal

pub returns : goal.returns
returns c = two_pieces _ _ _ _ _ c.in_ok-extend_from_slice.ensures.items c.in_ok-write_counted.ensures
