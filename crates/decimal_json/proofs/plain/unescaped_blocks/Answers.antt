use Rattle.std.proofs.Common.{◌≡◌, ◌+◌, ◌-◌, take, drop, ◌∙◌, sym, subst, arith}
use Rattle.std.specs.Prelude.{IsTrue}
use Rattle.std.specs.List.{list_all}
use Rattle.json_tokens.specs.TextToken.{is_unescaped}
use Rattle.decimal_json.proofs.Blocks.{block_more}
use Rattle.decimal_json.proofs.plain.unescaped_blocks.Goals as goal

pub loop-at-preserved : goal.loop-at-preserved
loop-at-preserved c =
    let b = c.args.bytes.now in
    let at = c.loop-at.at in
    let n : at + 16 - at ≡ 16 = omega arith in
    let block : IsTrue (list_all is_unescaped (take 16 (drop at b))) = subst (λ k. IsTrue (list_all is_unescaped (take k (drop at b)))) n (sym c.are_unescaped.ensures ∙ c.if-are_unescaped.true) in
    (omega arith, block_more is_unescaped b at 16 c.loop-at.invariant.1 block)
