use Rattle.std.proofs.Common.{◌≡◌, Some, drop, option_map}
use Rattle.decimal_json.specs.View.{tree_at, tree_of}
use Rattle.finding_sentences.specs.ExpressionSentence.{fitted_to, wanted_at}
use Rattle.finding_sentences.specs.Views.{wanted_seen}
use Rattle.finding_sentences.proofs.wanted_node.wanted_at.Given as goal

abbrev pub invariant-loop-part : goal.invariant-loop-part
invariant-loop-part l =
    wanted_at (drop l.part-index l.path) (tree_at l.node) (option_map wanted_seen l.wanted) ≡ wanted_at l.path (Some (tree_of l.fn.json)) (Some (fitted_to l.want))
