use Rattle.std.proofs.Common.{◌≡◌, ◌<◌, ◌-◌, ◌+◌, ◌^◌, ◌++◌}
use Rattle.generated_runs.specs.GeneratedTile.{ranked_points}
use Rattle.generated_runs.proofs.tile.ranked_points.Given as goal

abbrev pub invariant-loop-place : goal.invariant-loop-place
invariant-loop-place l =
    (l.x < 2 ^ 32) × (l.features ++ ranked_points (l.count - l.place) (l.place + 1) l.x ≡ ranked_points l.count 1 l.count)
