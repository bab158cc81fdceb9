use Rattle.std.proofs.Common.{◌∙◌, length, map, ap, arith}
use Rattle.style_layout.specs.CodeView.{layer_seen, tile_seen}
use Rattle.style_layout.specs.Shown.{layer_features}
use Rattle.asked_cells.proofs.FeatureLaws.{numbered_length}
use Rattle.asked_cells.proofs.view_cells.feature_count.Goals as goal

pub loop-found-init : goal.loop-found-init
loop-found-init c =
    let fs = layer_features (map tile_seen c.args.tiles.now) (layer_seen c.args.layer.now) in
    let all = ap length c.new-features.ensures.left ∙ numbered_length 0 fs in
    record { few = c.new-features.ensures.few; counted = omega (arith, all) }

pub overflow_add-count : goal.overflow_add-count
overflow_add-count c =
    let one = ap length c.in-Some.ensures.left in
    omega (arith, one, c.loop-found.invariant.counted, c.requires)

pub loop-found-preserved : goal.loop-found-preserved
loop-found-preserved c =
    let one = ap length c.in-Some.ensures.left in
    record { few = c.next.ensures.few; counted = omega (arith, one, c.loop-found.invariant.counted) }

pub returns : goal.returns
returns c =
    let none = ap length c.in_default.ensures.left in
    omega (arith, none, c.loop-found.invariant.counted)
