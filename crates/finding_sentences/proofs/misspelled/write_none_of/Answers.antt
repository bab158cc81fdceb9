use Rattle.std.proofs.Common.{rules, ◌≡◌, ◌∙◌, ◌++◌, ap, ℕ, List}
use Rattle.std.specs.Prelude.{codes, decimal}
use Rattle.finding_sentences.proofs.Appending.{piece_before, two_pieces}
use Rattle.finding_sentences.specs.MaySentence.{none_of}
use Rattle.decimal_json.specs.JsonText.{text_json}
use Rattle.prop_values.specs.Choices.{texts_of}
use Rattle.finding_sentences.specs.Wanted.{texts_listed}
use Rattle.finding_sentences.proofs.misspelled.write_none_of.Goals as goal

pub returns : goal.returns
unfolding none_of
returns c =
    piece_before c.args.out.now.items c.write_text.new.out.items c.extend_from_slice-2.new.self.items (text_json c.args.text.now) _ c.in_ok-write_text.ensures.ok
    (two_pieces c.write_text.new.out.items c.extend_from_slice.new.self.items c.extend_from_slice-2.new.self.items (codes " is none of ") (texts_listed (texts_of c.args.choice)) c.in_ok-extend_from_slice.ensures.items (c.in_ok-extend_from_slice-2.ensures.items ∙ ap (λ (z : List ℕ). c.extend_from_slice.new.self.items ++ z) (search rules)))
