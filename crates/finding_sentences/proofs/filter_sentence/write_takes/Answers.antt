use Rattle.std.proofs.Common.{rules, ◌≡◌, ◌∙◌, ◌++◌, ap, ℕ, List}
use Rattle.std.specs.Prelude.{codes, decimal}
use Rattle.finding_sentences.proofs.Appending.{piece_before, two_pieces}
use Rattle.finding_sentences.specs.FilterSentence.{takes_sentence}
use Rattle.finding_sentences.specs.Words.{counted}
use Rattle.decimal_json.specs.JsonText.{text_json}
use Rattle.finding_sentences.proofs.filter_sentence.write_takes.Goals as goal

pub returns : goal.returns
unfolding takes_sentence
returns c =
    piece_before c.args.out.now.items c.write_text.new.out.items c.write_counted.new.out.items (text_json c.args.name.now) _ c.in_ok-write_text.ensures.ok
    (piece_before c.write_text.new.out.items c.extend_from_slice.new.self.items c.write_counted.new.out.items (codes " takes ") _ c.in_ok-extend_from_slice.ensures.items
    (piece_before c.extend_from_slice.new.self.items c.extend_from_slice-2.new.self.items c.write_counted.new.out.items c.args.wanted.now _ c.in_ok-extend_from_slice-2.ensures.items
    (two_pieces c.extend_from_slice-2.new.self.items c.extend_from_slice-3.new.self.items c.write_counted.new.out.items (codes ", found a key and ") (counted c.args.found (codes "value") (codes "values")) c.in_ok-extend_from_slice-3.ensures.items c.in_ok-write_counted.ensures)))
