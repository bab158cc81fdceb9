use Rattle.std.proofs.Common.{rules, ◌≡◌, ◌++◌, ◌∙◌, ap}
use Rattle.finding_sentences.proofs.Appending.{two_pieces}
use Rattle.finding_sentences.specs.Wanted.{item_words}
use Rattle.finding_sentences.proofs.wanted.write_items.Goals as goal

pub returns : goal.returns
returns c =
    two_pieces _ _ _ _ (item_words c.args.item) c.in_ok-extend_from_slice.ensures.items
    (c.in_ok-extend_from_slice-2.ensures.items ∙ ap (λ z. c.extend_from_slice.new.self.items ++ z) (search rules))
