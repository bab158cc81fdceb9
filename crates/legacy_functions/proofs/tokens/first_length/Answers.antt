use Rattle.std.proofs.Common.{◌≡◌, ◌∙◌, sym, arith}
use Rattle.legacy_functions.specs.TokenSize.{token_size}
use Rattle.legacy_functions.proofs.TokenLaws.{fewer_after_token, fewer_after_plain}
use Rattle.legacy_functions.proofs.tokens.first_length.Goals as goal

pub returns-then-size-gt0-clause-one : goal.returns-then-size-gt0-clause-one
returns-then-size-gt0-clause-one c =
    fewer_after_token c.args.bytes.now c.token_length-size.result c.token_length-size.ensures.size c.if-size-gt0.true

pub returns-else-size-gt0-clause-one : goal.returns-else-size-gt0-clause-one
returns-else-size-gt0-clause-one c =
    let none : token_size c.args.bytes.now ≡ 0 = sym c.token_length-size.ensures.size ∙ omega arith in
    (fewer_after_plain c.args.bytes.now c.plain_length.result none c.requires c.plain_length.ensures.count).1
