use Rattle.std.proofs.Common.{◌<◌, ◌≤◌, ◌+◌, ◌-◌, ◌*◌, sym, get_or, length, arith}
use Rattle.style_program.specs.Words.{most_features}
use Rattle.style_program.proofs.FeatureNumbers.{past_most}
use Rattle.style_program.proofs.words.features_named.Goals as goal

pub returns-then-features-gt-MOST_FEATURES : goal.returns-then-features-gt-MOST_FEATURES
returns-then-features-gt-MOST_FEATURES c =
    let bytes = c.as_bytes-byte-items.result.now in
    let i = c.loop-byte.byte-index in
    let b = get_or bytes i 0 in
    let within : i < length bytes = omega (arith, c.loop-byte-test.true) in
    let low : 48 ≤ b = omega (arith, c.if-byte-lt48.false) in
    let high : b ≤ 57 = omega (arith, c.if-byte-gt57.false) in
    let more : most_features < 10 * c.loop-byte.features + (b - 48) = omega (arith, c.if-features-gt-MOST_FEATURES.true, low) in
    sym (past_most c.args.word.now bytes c.loop-byte.features i c.as_bytes-byte-items.ensures.value within low high more c.loop-byte.invariant.1)
