use Rattle.std.proofs.Common.{◌≡◌, ◌+◌, ◌<◌, ◌∙◌, length, take, set, get_or, arith, ap}
use Rattle.node_pool.specs.Blocks.{begins_at, total_length}
use Rattle.node_pool.proofs.BlockLaws.{not_moved_yet, one_moved, total_next, total_taken}
use Rattle.node_pool.proofs.gathering.put_one_after_another.Goals as goal

pub length-start-requires : goal.length-start-requires
length-start-requires c =
    let es = c.args.expressions.now.items in
    let i = c.loop-place.place in
    let e = c.index.result.now in
    let within : i < length es = omega (arith, c.loop-place-test.true, c.len-count.ensures, c.args.expressions.now.ok.0) in
    let own = not_moved_yet es i 0 e within (c.index.ensures ∙ ap (λ xs. get_or xs i e) c.loop-place.invariant.moved) in
    let n = total_next es i e within own in
    let t = total_taken es (i + 1) in
    omega (arith, n, t, c.requires)

pub overflow_add-start : goal.overflow_add-start
overflow_add-start c =
    let es = c.args.expressions.now.items in
    let i = c.loop-place.place in
    let e = c.index.result.now in
    let within : i < length es = omega (arith, c.loop-place-test.true, c.len-count.ensures, c.args.expressions.now.ok.0) in
    let own = not_moved_yet es i 0 e within (c.index.ensures ∙ ap (λ xs. get_or xs i e) c.loop-place.invariant.moved) in
    let n = total_next es i e within own in
    let t = total_taken es (i + 1) in
    omega (arith, n, t, c.requires, c.length-start.ensures, c.loop-place.invariant.start)

pub loop-place-preserved : goal.loop-place-preserved
loop-place-preserved c =
    let es = c.args.expressions.now.items in
    let i = c.loop-place.place in
    let e = c.index.result.now in
    let before = c.loop-place.invariant in
    let within : i < length es = omega (arith, c.loop-place-test.true, c.len-count.ensures, c.args.expressions.now.ok.0) in
    let own = not_moved_yet es i 0 e within (c.index.ensures ∙ ap (λ xs. get_or xs i e) before.moved) in
    let n = total_next es i e within own in
    let z : c.loop-place.start ≡ 0 + total_length (take i es) = omega (arith, before.start) in
    let made = c.begins_at.ensures ∙ ap (λ k. begins_at k e) z in
    record {
      moved = (λ j. set (before.moved j) i (made j)) ∙ one_moved es i 0 e within own;
      start = omega (arith, n, before.start, c.length-start.ensures);
    }
