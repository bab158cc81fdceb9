use Rattle.std.proofs.Common.{rules, ◌≡◌, ◌∙◌, ◌++◌, ap, ℕ, List}
use Rattle.std.specs.Prelude.{codes, decimal}
use Rattle.finding_sentences.proofs.Appending.{piece_before, two_pieces}
use Rattle.finding_sentences.specs.ExpressionSentence.{both_kinds, node_text}
use Rattle.finding_sentences.specs.Wanted.{kind_words}
use Rattle.decimal_json.specs.View.{tree_of}
use Rattle.finding_sentences.proofs.expression_sentence.write_both.Goals as goal

pub returns : goal.returns
unfolding both_kinds
returns c =
    piece_before c.args.out.now.items c.write_node.new.out.items c.write_kind-2.new.out.items (node_text (tree_of c.args.node.now)) _ c.in_ok-write_node.ensures
    (piece_before c.write_node.new.out.items c.extend_from_slice.new.self.items c.write_kind-2.new.out.items (codes " cannot compare ") _ c.in_ok-extend_from_slice.ensures.items
    (piece_before c.extend_from_slice.new.self.items c.write_kind.new.out.items c.write_kind-2.new.out.items (kind_words c.args.first) _ c.in_ok-write_kind.ensures
    (two_pieces c.write_kind.new.out.items c.extend_from_slice-2.new.self.items c.write_kind-2.new.out.items (codes " with ") (kind_words c.args.second) c.in_ok-extend_from_slice-2.ensures.items c.in_ok-write_kind-2.ensures)))
