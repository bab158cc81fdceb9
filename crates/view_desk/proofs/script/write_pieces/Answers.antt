use Rattle.std.proofs.lemmas.Result.{on_err_weaker}
use Rattle.outside_io.specs.WritingLaws.{at_error}
use Rattle.view_desk.proofs.Pieces.{later_prefix, longer_prefix}
use Rattle.view_desk.proofs.script.write_pieces.Goals as goal

pub returns-in_err-write_piece-clause-err : goal.returns-in_err-write_piece-clause-err
returns-in_err-write_piece-clause-err g c =
    at_error c.from_residual.result (longer_prefix _ _ c.args.first.now c.args.second.now c.in_err-write_piece.ensures.err)

pub returns-clause-err : goal.returns-clause-err
returns-clause-err g c =
    on_err_weaker c.write_piece-2.result (later_prefix _ _ _ c.args.first.now c.args.second.now c.in_ok-write_piece.ensures.ok) c.write_piece-2.ensures.err
