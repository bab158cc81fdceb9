use Rattle.std.proofs.Common.{[], refl}
use Rattle.text_pieces.proofs.PieceLaws.{front_prefix}
use Rattle.text_pieces.proofs.pieces.TextPieces.pour.Goals as goal

pub returns-in-Err-clause-adds : goal.returns-in-Err-clause-adds
returns-in-Err-clause-adds g c = record {
  same = refl;
  adds = tt;
  still = tt;
  front = front_prefix _ _ c.args.self.now.text.items [] (rw c.as_slice.ensures.value at c.in-Err.ensures.err);
  cause = c.in-Err.ensures.cause;
}
