use Rattle.std.proofs.Common.{◌∙◌, ap, ℕ, ◌+◌}
use Rattle.generated_runs.specs.GeneratedTile.{ranked_point}
use Rattle.generated_runs.proofs.TileLaws.{one_more}
use Rattle.generated_runs.proofs.tile.ranked_points.Goals as goal

pub loop-place-preserved : goal.loop-place-preserved
loop-place-preserved c = (
  c.next-x.ensures.below,
  one_more c.loop-place.features c.push.new.self c.args.count c.loop-place.place c.loop-place.x c.next-x.result c.in_ok-feature.feature _
      c.loop-place-test.true c.next-x.ensures.value (c.in_ok-feature.ensures ∙ ap (λ (r : ℕ). ranked_point (c.loop-place.place + 1) r) c.rank.ensures.value) c.in_ok-push.ensures.ok c.loop-place.invariant.1,
)
