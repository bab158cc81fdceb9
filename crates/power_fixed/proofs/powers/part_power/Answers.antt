use Rattle.std.proofs.Common.{◌≡◌, sym, ap, ◌∙◌, arith}
use Rattle.power_fixed.specs.Power.{part_after, part_of}
use Rattle.power_fixed.proofs.PartPowers.{part_ends}
use Rattle.power_fixed.proofs.powers.part_power.Goals as goal

-- all digits were taken
pub returns : goal.returns
unfolding part_of
returns c =
    let all : c.loop-place._place ≡ 20 = omega arith in
    c.loop-place.invariant.power ∙ ap (part_after c.args.base c.args.fraction) all

-- nothing is left
pub returns-then-rest-eq0 : goal.returns-then-rest-eq0
unfolding part_of
returns-then-rest-eq0 c =
    c.loop-place.invariant.power ∙ part_ends c.args.base c.args.fraction c.loop-place._place 20 (omega arith) (sym c.loop-place.invariant.rest ∙ c.if-rest-eq0.true)
