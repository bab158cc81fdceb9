use Rattle.std.proofs.Common.{◌∙◌, sym}
use Rattle.color_values.proofs.PartLaws.{one_piece, two_pieces, three_pieces, more_pieces}
use Rattle.color_values.proofs.parts.parts_of.Goals as goal

pub returns-in_default : goal.returns-in_default
returns-in_default c = sym (one_piece c.args.bytes.now c.in_default.ensures)

pub returns-in_default-first_piece : goal.returns-in_default-first_piece
returns-in_default-first_piece c =
    sym (two_pieces c.args.bytes.now c.in-Some.first.now c.in-Some.after_first.now c.in-Some.ensures c.in_default-first_piece.ensures)

pub returns-in-Some-first_piece-2 : goal.returns-in-Some-first_piece-2
returns-in-Some-first_piece-2 c =
    c.parts_with_last.ensures
    ∙ sym (more_pieces c.args.bytes.now c.in-Some.first.now c.in-Some.after_first.now c.in-Some-first_piece.second.now c.in-Some-first_piece.after_second.now c.in-Some-first_piece-2.third.now c.in-Some-first_piece-2.last.now c.in-Some.ensures c.in-Some-first_piece.ensures c.in-Some-first_piece-2.ensures)

pub returns-in-None : goal.returns-in-None
returns-in-None c =
    let all = three_pieces c.args.bytes.now c.in-Some.first.now c.in-Some.after_first.now c.in-Some-first_piece.second.now c.in-Some-first_piece.after_second.now c.in-Some.ensures c.in-Some-first_piece.ensures c.in-None.ensures in
    cc
