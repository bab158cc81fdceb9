use Rattle.std.proofs.Common.{◌≡◌, ◌≤◌, length, drop}
use Rattle.style_program.specs.Words.{features_named, most_features}
use Rattle.style_program.proofs.FeatureNumbers.{named_after}
use Rattle.style_program.proofs.words.features_named.Given as goal

abbrev pub invariant-loop-byte : goal.invariant-loop-byte
invariant-loop-byte l =
    (l.features ≤ most_features) × (named_after (length l.word) l.features (drop l.byte-index l.word) ≡ features_named l.word)
