use Rattle.std.proofs.Common.{rules, ◌≡◌, ◌∙◌, ◌++◌, ap, ℕ, List}
use Rattle.std.specs.Prelude.{codes, decimal}
use Rattle.finding_sentences.proofs.Appending.{piece_before, two_pieces}
use Rattle.finding_sentences.specs.FunctionSentence.{no_stop}
use Rattle.finding_sentences.specs.Words.{unlike}
use Rattle.decimal_json.specs.View.{tree_of}
use Rattle.finding_sentences.proofs.stop_sentence.write_no_stop.Goals as goal

pub returns : goal.returns
unfolding no_stop
returns c =
    piece_before c.args.out.now.items c.extend_from_slice.new.self.items c.write_unlike.new.out.items (codes "\"stops\": stop ") _ c.in_ok-extend_from_slice.ensures.items
    (piece_before c.extend_from_slice.new.self.items c.write_count.new.out.items c.write_unlike.new.out.items (decimal c.args.place) _ c.in_ok-write_count.ensures
    (two_pieces c.write_count.new.out.items c.extend_from_slice-2.new.self.items c.write_unlike.new.out.items (codes " ") (unlike (codes "[INPUT, OUTPUT]") (tree_of c.args.stop.now)) c.in_ok-extend_from_slice-2.ensures.items c.in_ok-write_unlike.ensures))
