use Rattle.std.proofs.Common.{rules, ◌≡◌, ◌∙◌, ◌++◌, ap, ℕ, List}
use Rattle.std.specs.Prelude.{codes, decimal}
use Rattle.finding_sentences.proofs.Appending.{two_pieces}
use Rattle.finding_sentences.specs.ExpressionSentence.{even_arguments}
use Rattle.finding_sentences.proofs.expression_sentence.write_even.Goals as goal

pub returns : goal.returns
unfolding even_arguments
returns c =
    two_pieces c.args.out.now.items c.extend_from_slice.new.self.items c.write_count.new.out.items (codes "an even number of arguments, at least ") (decimal c.args.count) c.in_ok-extend_from_slice.ensures.items c.in_ok-write_count.ensures
