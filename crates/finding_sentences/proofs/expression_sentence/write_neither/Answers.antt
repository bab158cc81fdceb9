use Rattle.std.proofs.Common.{rules, ◌≡◌, ◌∙◌, ◌++◌, ap, ℕ, List}
use Rattle.std.specs.Prelude.{codes, decimal}
use Rattle.finding_sentences.proofs.Appending.{piece_before}
use Rattle.finding_sentences.specs.ExpressionSentence.{no_kinds, node_text}
use Rattle.decimal_json.specs.View.{tree_of}
use Rattle.finding_sentences.proofs.expression_sentence.write_neither.Goals as goal

pub returns : goal.returns
unfolding no_kinds
returns c =
    piece_before c.args.out.now.items c.write_node.new.out.items c.extend_from_slice.new.self.items (node_text (tree_of c.args.node.now)) (codes " cannot compare values of these types") c.in_ok-write_node.ensures c.in_ok-extend_from_slice.ensures.items
