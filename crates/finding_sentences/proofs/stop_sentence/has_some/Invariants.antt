use Rattle.std.proofs.Common.{◌≡◌, drop}
use Rattle.decimal_json.specs.View.{trees}
use Rattle.finding_sentences.specs.FunctionSentence.{has_some}
use Rattle.finding_sentences.proofs.stop_sentence.has_some.Given as goal

abbrev pub invariant-loop-stop : goal.invariant-loop-stop
invariant-loop-stop l = has_some l.zoomed (trees (drop l.stop-index l.stops)) ≡ has_some l.zoomed (trees l.stops)
