use Rattle.std.proofs.Common.{◌≡◌, pos, arith, rules, ◌∙◌}
use Rattle.std.specs.Prelude.{unsigned_abs}
use Rattle.std.proofs.lemmas.Int.{ints}
use Rattle.power_fixed.proofs.Squares.{root_is}
use Rattle.power_fixed.proofs.roots.root.Goals as goal

-- what is made of the whole root is the root
pub returns-clause-root : goal.returns-clause-root
returns-clause-root c =
    let made = rw c.unwrap.ensures at c.from_millionths.ensures.value in
    let same : c.unsigned_abs.result ≡ unsigned_abs c.args.number = search rules in
    let plain : c.unwrap.result ≡ pos c.whole_root.result = omega (arith, ints, made, c.whole_root.ensures.short) in
    plain ∙ root_is c.args.number c.whole_root.result (omega arith) (omega arith)
