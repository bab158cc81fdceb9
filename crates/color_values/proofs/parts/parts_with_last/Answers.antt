use Rattle.std.proofs.Common.{◌≡◌, ◌∙◌, sym, false, true}
use Rattle.std.specs.Prelude.{option_map}
use Rattle.std.specs.Option.{is_some}
use Rattle.color_values.specs.Views.{pair_of}
use Rattle.color_values.proofs.PartLaws.{piece_follows, piece_is_last, is_some-pairs}
use Rattle.color_values.proofs.parts.parts_with_last.Goals as goal

pub returns-then-is_some : goal.returns-then-is_some
returns-then-is_some c =
    let some : is_some (option_map pair_of c.first_piece.result) ≡ true = is_some-pairs c.first_piece.result ∙ sym c.is_some.ensures ∙ c.if-is_some.true in
    piece_follows c.args.first.now c.args.second.now c.args.third.now c.args.last.now (option_map pair_of c.first_piece.result) some c.first_piece.ensures

pub returns : goal.returns
returns c =
    let none : is_some (option_map pair_of c.first_piece.result) ≡ false = is_some-pairs c.first_piece.result ∙ sym c.is_some.ensures ∙ c.if-is_some.false in
    let all = piece_is_last c.args.first.now c.args.second.now c.args.third.now c.args.last.now (option_map pair_of c.first_piece.result) none c.first_piece.ensures in
    cc
