use Rattle.std.proofs.Common.{ap, map, nat_eq, ◌∙◌}
use Rattle.layer_buckets.specs.Cells.{reads_state}
use Rattle.layer_buckets.specs.Seen.{kept_at, source_of}
use Rattle.style_layout.specs.CodeView.{layer_seen, tile_seen}
use Rattle.kept_layers.proofs.StateLaws.{left_by, listed_all}
use Rattle.kept_layers.proofs.kept_layers.KeptLayers.drop_features.Goals as goal

pub returns-in-Some-find-clause-kept : goal.returns-in-Some-find-clause-kept
returns-in-Some-find-clause-kept c = λ cell.
    let tiles = map tile_seen c.args.tiles.now in
    let layer = layer_seen c.args.shown.now in
    let old = c.args.self.now.cells.buckets in
    c.drop_indexed.ensures.kept cell
    ∙ ap (λ hit. left_by (nat_eq c.args.number cell.layer) hit (reads_state (source_of old cell.layer cell.item)) (kept_at old cell))
    (listed_all c.in-Some-find.index.now c.args.id tiles layer cell.feature (c.in-Some-find.ensures tiles c.note.ensures))
