use Rattle.decimal_json.proofs.TextTaken.{char_taken, char_cut}
use Rattle.decimal_json.proofs.piece.read_char.Goals as goal

pub returns-in_ok-extend_from_slice-in-Whole-clause-gives :
    goal.returns-in_ok-extend_from_slice-in-Whole-clause-gives
returns-in_ok-extend_from_slice-in-Whole-clause-gives c =
    char_taken c.args.cursor.now c.rest.result.now c.take_front-bytes.result.now c.take_front-bytes.new.self c.args.text.now.items c.extend_from_slice.new.self.items c.in-Whole.count c.rest.ensures c.in-Whole.ensures c.take_front-bytes.ensures.split c.take_front-bytes.ensures.front c.in_ok-extend_from_slice-in-Whole.ensures.items

pub returns-in-Cut-clause-gives : goal.returns-in-Cut-clause-gives
returns-in-Cut-clause-gives c =
    char_cut c.args.cursor.now c.rest.result.now c.take_front.result.now c.take_front.new.self c.in-Cut.count c.peek.result c.cut_kind.result c.rest.ensures c.in-Cut.ensures c.take_front.ensures.split c.take_front.ensures.front c.take_front.ensures.back c.peek.ensures c.cut_kind.ensures
