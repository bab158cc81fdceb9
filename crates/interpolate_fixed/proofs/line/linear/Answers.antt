use Rattle.std.proofs.Common.{◌≡◌, ap, ◌∙◌, arith, rules, to_z, of_z}
use Rattle.std.specs.Prelude.{Ok}
use Rattle.std.proofs.lemmas.Int.{ints, to_z-of_z}
use mir.Syntax.{w128}
use Rattle.interpolate_fixed.proofs.Steps.{linear_fault, linear_step, step_fits}
use Rattle.interpolate_fixed.proofs.line.linear.Goals as goal

-- the numbers of the share are those of the line
pub returns-in-Err : goal.returns-in-Err
returns-in-Err c = linear_fault c.args.x c.args.x0 c.args.a c.args.x1 c.args.b _ _ _ _ c.in-Err.ensures c.requires.from (omega (arith, ints)) c.span.ensures c.span-2.ensures

pub moved_on-requires : goal.moved_on-requires
moved_on-requires c =
    let step : to_z w128 (of_z w128 c.in-Ok.step) ≡ c.in-Ok.step = to_z-of_z w128 c.in-Ok.step (search rules) in
    rw step (step_fits c.args.x c.args.x0 c.args.a c.args.x1 c.args.b _ _ _ _ c.in-Ok.ensures c.requires.from c.requires.to c.requires.apart (omega (arith, ints)) c.span.ensures c.span-2.ensures c.way.ensures.from c.way.ensures.to)

pub returns-in-Ok : goal.returns-in-Ok
returns-in-Ok c =
    let step : to_z w128 (of_z w128 c.in-Ok.step) ≡ c.in-Ok.step = to_z-of_z w128 c.in-Ok.step (search rules) in
    let moved = rw step at c.moved_on.ensures in
    ap Ok moved ∙ linear_step c.args.x c.args.x0 c.args.a c.args.x1 c.args.b _ _ _ _ c.in-Ok.ensures c.requires.from (omega (arith, ints)) c.span.ensures c.span-2.ensures
