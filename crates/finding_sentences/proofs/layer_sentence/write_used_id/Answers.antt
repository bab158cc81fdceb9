use Rattle.std.proofs.Common.{rules, ◌≡◌, ◌∙◌, ◌++◌, ap, ℕ, List}
use Rattle.std.specs.Prelude.{codes, decimal}
use Rattle.finding_sentences.proofs.Appending.{two_pieces}
use Rattle.finding_sentences.specs.Sentence.{used_id}
use Rattle.finding_sentences.specs.Words.{found_text}
use Rattle.decimal_json.specs.View.{tree_of}
use Rattle.finding_sentences.proofs.layer_sentence.write_used_id.Goals as goal

pub returns : goal.returns
unfolding used_id
returns c =
    two_pieces c.args.out.now.items c.extend_from_slice.new.self.items c.write_found.new.out.items (codes "an earlier layer has the id ") (found_text (tree_of c.args.json.now)) c.in_ok-extend_from_slice.ensures.items c.in_ok-write_found.ensures
