use Rattle.std.proofs.Common.{rules, ◌≡◌, ◌∙◌, ◌++◌, ap, ℕ, List}
use Rattle.std.specs.Prelude.{codes, decimal}
use Rattle.finding_sentences.proofs.Appending.{two_pieces}
use Rattle.finding_sentences.specs.Sentence.{no_source}
use Rattle.decimal_json.specs.JsonText.{text_json}
use Rattle.finding_sentences.proofs.layer_sentence.write_no_source.Goals as goal

pub returns : goal.returns
unfolding no_source
returns c =
    two_pieces c.args.out.now.items c.extend_from_slice.new.self.items c.write_text.new.out.items (codes "the style has no source ") (text_json c.args.name.now) c.in_ok-extend_from_slice.ensures.items c.in_ok-write_text.ensures.ok
