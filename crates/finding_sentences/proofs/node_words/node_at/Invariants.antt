use Rattle.std.proofs.Common.{◌≡◌, drop}
use Rattle.decimal_json.specs.View.{tree_of}
use Rattle.finding_sentences.specs.ExpressionSentence.{node_at}
use Rattle.finding_sentences.proofs.node_words.node_at.Given as goal

abbrev pub invariant-loop-part : goal.invariant-loop-part
invariant-loop-part l = node_at (drop l.part-index l.path) (tree_of l.node) ≡ node_at l.path (tree_of l.fn.json)
