use Rattle.std.proofs.Common.{◌≡◌, ◌<◌, length, sym, ◌∙◌, arith}
use Rattle.operator_values.proofs.Lists.{in_second, goes_on, stops}
use Rattle.operator_values.proofs.ramps.list_between.Goals as goal

pub returns-in-Err : goal.returns-in-Err
returns-in-Err c =
    let in_a : c.loop-i.i < length c.args.a.now = omega arith in
    let in_b : c.loop-i.i < length c.args.b.now = in_second c.args.a.now c.args.b.now c.loop-i.i c.index-a-i.result in_a c.index-a-i.is c.loop-i.invariant.pairs in
    sym c.loop-i.invariant.same ∙ stops c.args.x c.args.x0 c.args.x1 c.args.a.now c.args.b.now c.loop-i.i c.index-a-i.result c.index-b-i.result c.loop-i.between c.in-Err.fault in_a in_b c.index-a-i.is c.index-b-i.is c.loop-i.invariant.pairs c.in-Err.ensures

pub loop-i-preserved : goal.loop-i-preserved
loop-i-preserved c =
    let in_a : c.loop-i.i < length c.args.a.now = omega arith in
    let in_b : c.loop-i.i < length c.args.b.now = in_second c.args.a.now c.args.b.now c.loop-i.i c.index-a-i.result in_a c.index-a-i.is c.loop-i.invariant.pairs in
    let next = goes_on c.args.x c.args.x0 c.args.x1 c.args.a.now c.args.b.now c.loop-i.i c.index-a-i.result c.index-b-i.result c.loop-i.between _ in_a in_b c.index-a-i.is c.index-b-i.is c.loop-i.invariant.pairs c.in-Ok.ensures in
    record {
      pairs = next.0;
      same = rw c.in_ok-push-in-Ok.ensures.ok (next.1 ∙ c.loop-i.invariant.same);
    }
