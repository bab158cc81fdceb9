use Rattle.std.proofs.Common.{◌≡◌, drop}
use Rattle.decimal_json.specs.View.{trees}
use Rattle.finding_sentences.specs.FilterSentence.{first_other}
use Rattle.finding_sentences.proofs.filter_sentence.first_other.Given as goal

abbrev pub invariant-loop-value : goal.invariant-loop-value
invariant-loop-value l = first_other l.key (trees (drop l.value-index l.values)) ≡ first_other l.key (trees l.values)
