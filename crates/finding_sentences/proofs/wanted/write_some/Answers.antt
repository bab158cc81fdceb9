use Rattle.std.proofs.Common.{rules, ◌≡◌, ◌∙◌, ◌++◌, ap, ℕ, List}
use Rattle.std.specs.Prelude.{codes, decimal}
use Rattle.finding_sentences.proofs.Appending.{two_pieces}
use Rattle.prop_values.specs.Choices.{texts_of}
use Rattle.finding_sentences.specs.Wanted.{texts_listed}
use Rattle.finding_sentences.proofs.wanted.write_some.Goals as goal

pub returns : goal.returns
returns c =
    two_pieces c.args.out.now.items c.extend_from_slice.new.self.items c.extend_from_slice-2.new.self.items (codes "an array of some of ") (texts_listed (texts_of c.args.choice)) c.in_ok-extend_from_slice.ensures.items (c.in_ok-extend_from_slice-2.ensures.items ∙ ap (λ (z : List ℕ). c.extend_from_slice.new.self.items ++ z) (search rules))
