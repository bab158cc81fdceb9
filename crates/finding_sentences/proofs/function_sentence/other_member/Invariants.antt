use Rattle.std.proofs.Common.{◌≡◌, drop}
use Rattle.decimal_json.specs.View.{fields}
use Rattle.finding_sentences.specs.FunctionSentence.{other_member}
use Rattle.finding_sentences.proofs.function_sentence.other_member.Given as goal

abbrev pub invariant-loop-member : goal.invariant-loop-member
invariant-loop-member l = other_member (fields (drop l.member-index l.members)) ≡ other_member (fields l.members)
