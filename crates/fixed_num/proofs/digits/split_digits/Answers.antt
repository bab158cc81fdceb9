use Rattle.std.proofs.Common.{◌≡◌, ap, ◌∙◌, arith, List, ℕ}
use Rattle.std.specs.Char.{is_ascii_digit}
use Rattle.std.specs.List.{list_all}
use Rattle.std.proofs.lemmas.List.Sums.{prefix_len-le-length}
use Rattle.fixed_num.specs.Decimal.{leading_digits}
use Rattle.fixed_num.proofs.Decimals.{list_all-leading_digits}
use Rattle.fixed_num.proofs.digits.split_digits.Goals as goal

pub split_at-requires : goal.split_at-requires
split_at-requires c = omega (arith, prefix_len-le-length is_ascii_digit c.args.bytes.now)

pub returns-clause-all : goal.returns-clause-all
returns-clause-all c =
    let front : c.split_at.result.0.now ≡ leading_digits c.args.bytes.now = cc in
    ap (λ (ds : List ℕ). list_all is_ascii_digit ds) front ∙ list_all-leading_digits c.args.bytes.now
