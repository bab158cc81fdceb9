use Rattle.std.proofs.Common.{rules, ◌≡◌, ◌∙◌, ◌++◌, ap, ℕ, List}
use Rattle.std.specs.Prelude.{codes, decimal}
use Rattle.finding_sentences.proofs.Appending.{piece_before}
use Rattle.finding_sentences.specs.LiteralSentence.{no_operator}
use Rattle.decimal_json.specs.JsonText.{text_json}
use Rattle.finding_sentences.proofs.literal_sentence.write_no_operator.Goals as goal

pub returns : goal.returns
unfolding no_operator
returns c =
    piece_before c.args.out.now.items c.extend_from_slice.new.self.items c.extend_from_slice-2.new.self.items (codes ", and ") _ c.in_ok-extend_from_slice.ensures.items
    (piece_before c.extend_from_slice.new.self.items c.write_text.new.out.items c.extend_from_slice-2.new.self.items (text_json c.args.name.now) (codes " is no operator") c.in_ok-write_text.ensures.ok c.in_ok-extend_from_slice-2.ensures.items)
