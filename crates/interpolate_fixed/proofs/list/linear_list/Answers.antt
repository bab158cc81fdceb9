use Rattle.std.proofs.Common.{◌≡◌, ◌<◌, pos, length, get_or, refl, sym, ◌∙◌, arith}
use Rattle.std.proofs.lemmas.List.{get_or_read_under, drop_all}
use Rattle.interpolate_fixed.proofs.Lists.{list_goes_on, list_stops, list_ends}
use Rattle.interpolate_fixed.proofs.list.linear_list.Goals as goal

pub returns-in-Err : goal.returns-in-Err
returns-in-Err c =
    let in_a : c.loop-i.i < length c.args.a.now = omega arith in
    let in_b : c.loop-i.i < length c.args.b.now = omega arith in
    let a_is : c.index-a-i.result ≡ get_or c.args.a.now c.loop-i.i (pos 0) = get_or_read_under _ _ _ _ (pos 0) c.index-a-i.is in_a refl in
    let b_is : c.index-b-i.result ≡ get_or c.args.b.now c.loop-i.i (pos 0) = get_or_read_under _ _ _ _ (pos 0) c.index-b-i.is in_b refl in
    let fault = rw (a_is, b_is) at c.in-Err.ensures in
    sym (c.loop-i.invariant ∙ list_stops c.args.x c.args.x0 c.args.a.now c.args.x1 c.args.b.now c.loop-i.i c.loop-i.items.items c.in-Err.fault in_a in_b (sym fault))

pub loop-i-preserved : goal.loop-i-preserved
loop-i-preserved c =
    let in_a : c.loop-i.i < length c.args.a.now = omega arith in
    let in_b : c.loop-i.i < length c.args.b.now = omega arith in
    let a_is : c.index-a-i.result ≡ get_or c.args.a.now c.loop-i.i (pos 0) = get_or_read_under _ _ _ _ (pos 0) c.index-a-i.is in_a refl in
    let b_is : c.index-b-i.result ≡ get_or c.args.b.now c.loop-i.i (pos 0) = get_or_read_under _ _ _ _ (pos 0) c.index-b-i.is in_b refl in
    let item = rw (a_is, b_is) at c.in-Ok.ensures in
    rw c.in_ok-push-in-Ok.ensures.items
    (c.loop-i.invariant ∙ list_goes_on c.args.x c.args.x0 c.args.a.now c.args.x1 c.args.b.now c.loop-i.i c.loop-i.items.items c.in-Ok.item in_a in_b (sym item))

pub returns : goal.returns
returns c =
    let all = drop_all c.loop-i.i c.args.a.now (omega arith) in
    let end = rw all at c.loop-i.invariant in
    sym (end ∙ list_ends c.args.x c.args.x0 c.args.x1 _ c.loop-i.items.items)
