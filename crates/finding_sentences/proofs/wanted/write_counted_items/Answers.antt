use Rattle.std.proofs.Common.{rules, ◌≡◌, ◌∙◌, ◌++◌, ap, ℕ, List}
use Rattle.std.specs.Prelude.{codes, decimal}
use Rattle.finding_sentences.proofs.Appending.{piece_before, two_pieces}
use Rattle.finding_sentences.specs.Wanted.{item_words}
use Rattle.finding_sentences.proofs.wanted.write_counted_items.Goals as goal

pub returns : goal.returns
returns c =
    piece_before c.args.out.now.items c.extend_from_slice.new.self.items c.extend_from_slice-3.new.self.items (codes "an array of ") _ c.in_ok-extend_from_slice.ensures.items
    (piece_before c.extend_from_slice.new.self.items c.write_count.new.out.items c.extend_from_slice-3.new.self.items (decimal c.args.count) _ c.in_ok-write_count.ensures
    (two_pieces c.write_count.new.out.items c.extend_from_slice-2.new.self.items c.extend_from_slice-3.new.self.items (codes " ") (item_words c.args.item) c.in_ok-extend_from_slice-2.ensures.items (c.in_ok-extend_from_slice-3.ensures.items ∙ ap (λ (z : List ℕ). c.extend_from_slice-2.new.self.items ++ z) (search rules))))
