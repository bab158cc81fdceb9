use Rattle.std.proofs.Common.{rules, ◌≡◌, ◌∙◌, ◌++◌, ap, ℕ, List}
use Rattle.std.specs.Prelude.{codes, decimal}
use Rattle.finding_sentences.proofs.Appending.{two_pieces}
use Rattle.finding_sentences.specs.Sentence.{place_hint, place_name}
use Rattle.finding_sentences.proofs.sentence.write_hint.Goals as goal

pub returns : goal.returns
unfolding place_hint
returns c =
    two_pieces c.args.out.now.items c.extend_from_slice.new.self.items c.extend_from_slice-2.new.self.items (codes ", and it is one of its ") (place_name c.args.place) c.in_ok-extend_from_slice.ensures.items (c.in_ok-extend_from_slice-2.ensures.items ∙ ap (λ (z : List ℕ). c.extend_from_slice.new.self.items ++ z) (search rules))
