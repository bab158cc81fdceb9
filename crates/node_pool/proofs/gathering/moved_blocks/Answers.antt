use Rattle.std.proofs.Common.{◌≡◌, ◌<◌, ◌∙◌, ◌++◌, length, take, drop, get_or, refl, arith, ap, inl, inr, false}
use Rattle.std.proofs.lemmas.List.{length-append, get_or_default}
use Rattle.std.proofs.lemmas.Option.{slice_get-get_or}
use Rattle.node_pool.specs.Blocks.{block_of, length_of}
use Rattle.node_pool.specs.declared.pooled_expression.PooledExpression.{PooledExpression}
use Rattle.node_pool.proofs.BlockLaws.{blocks_next, block_length, total_dropped}
use Rattle.node_pool.proofs.gathering.moved_blocks.Goals as goal

abbrev none : PooledExpression
none = record { start = 0; first = 0; bindings = 0; nodes = 0; chained = false }

pub loop-expression-init : goal.loop-expression-init
loop-expression-init c =
    record {
      moved = c.in_ok-moved.ensures.items;
      room = omega (arith, c.in_ok-moved.ensures.len, c.in_ok-moved.ensures.exact, c.requires.counted);
      nodes = refl;
      later = λ j e h g. refl;
    }

pub move_nodes-requires-clause-within : goal.move_nodes-requires-clause-within
move_nodes-requires-clause-within c =
    let es = c.args.expressions.now in
    let i = c.loop-expression.expression-index in
    let e = get_or es i none in
    let h = c.requires.held i e (slice_get-get_or es i none (omega arith)) in
    omega (arith, h.within, c.length.ensures, c.loop-expression.invariant.nodes)

pub loop-expression-preserved : goal.loop-expression-preserved
loop-expression-preserved c =
    let before = c.loop-expression.invariant in
    let es = c.args.expressions.now in
    let i = c.loop-expression.expression-index in
    let within : i < length es = omega arith in
    let e = get_or es i none in
    let own : e ≡ get_or es i e = get_or_default es i none e within in
    let here = slice_get-get_or es i none within in
    let held = c.requires.held i e here in
    let ps = c.args.nodes.now.items in
    let qs = c.loop-expression.nodes.items in
    let l = c.length.ensures in
    let block : take c.length.result (drop e.start qs) ≡ block_of ps e =
    ap (λ n. take n (drop e.start qs)) l ∙ before.later i e (omega arith) here in
    let b = ap length block ∙ block_length ps e held.within in
    let n = ap length c.move_nodes.ensures.moved in
    let a = length-append c.loop-expression.moved.items (take c.length.result (drop e.start qs)) in
    let t = total_dropped es i e within own in
    record {
      moved = c.move_nodes.ensures.moved ∙ ((λ j. before.moved j ++ block j) ∙ blocks_next ps es i e within own);
      room = omega (arith, n, a, b, t, before.room, c.move_nodes.ensures.capacity, c.move_nodes.new.moved.ok.0, c.loop-expression.moved.ok.0);
      nodes = c.move_nodes.ensures.length ∙ before.nodes;
      later = λ j f k q.
          c.move_nodes.ensures.others f.start (length_of f)
          (elim (c.requires.apart i j e f (omega (arith, k)) here q) [
            | inl r ↦ inr (omega (arith, r, l))
            | inr r ↦ inl r
          ])
          ∙ before.later j f (omega (arith, k)) q;
    }
