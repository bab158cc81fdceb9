use Rattle.std.proofs.Common.{◌≡◌, drop}
use Rattle.std.specs.List.{list_all}
use Rattle.finding_sentences.specs.Words.{is_plain}
use Rattle.finding_sentences.proofs.words.is_plain_name.Given as goal

abbrev pub invariant-loop-byte : goal.invariant-loop-byte
invariant-loop-byte l = list_all is_plain (drop l.byte-index l.name) ≡ list_all is_plain l.name
