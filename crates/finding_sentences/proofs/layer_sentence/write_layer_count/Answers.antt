use Rattle.std.proofs.Common.{rules, ◌≡◌, ◌∙◌, ◌++◌, ap, ℕ, List}
use Rattle.std.specs.Prelude.{codes, decimal}
use Rattle.finding_sentences.proofs.Appending.{two_pieces}
use Rattle.finding_sentences.specs.Sentence.{layer_count}
use Rattle.finding_sentences.specs.Words.{counted}
use Rattle.finding_sentences.proofs.layer_sentence.write_layer_count.Goals as goal

pub returns : goal.returns
unfolding layer_count
returns c =
    two_pieces c.args.out.now.items c.extend_from_slice.new.self.items c.write_counted.new.out.items (codes "must have at most 65536 layers, found ") (counted c.args.count (codes "item") (codes "items")) c.in_ok-extend_from_slice.ensures.items c.in_ok-write_counted.ensures
