use Rattle.std.proofs.Common.{◌≡◌, ◌≤◌}
use Rattle.finding_sentences.specs.ExpressionSentence.{arguments_before}
use Rattle.finding_sentences.proofs.wanted_node.arguments_before.Given as goal

abbrev pub invariant-loop-at : goal.invariant-loop-at
invariant-loop-at l = record {
  counted : l.count ≡ arguments_before l.layout l.elements l.at;
  few : l.count ≤ l.at;
}
