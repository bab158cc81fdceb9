use Rattle.std.proofs.Common.{◌≡◌, length}
use Rattle.std.specs.Prelude.{map, nat_eq}
use Rattle.layer_buckets.specs.Cells.{reads_state}
use Rattle.layer_buckets.specs.Seen.{IsSound, kept_at, source_of}
use Rattle.layer_buckets.specs.declared.cell.Cell.{Cell}
use Rattle.style_layout.specs.CodeView.{layer_seen, tile_seen}
use Rattle.style_layout.specs.Shown.{layer_features, numbered}
use Rattle.style_layout.specs.Walk.{HasFewLeft, features_left}
use Rattle.kept_layers.specs.Holding.{Still}
use Rattle.kept_layers.proofs.StateLaws.{hits, left_by}
use Rattle.kept_layers.proofs.kept_layers.KeptLayers.drop_walked.Given as goal

abbrev pub invariant-loop-feature : goal.invariant-loop-feature
invariant-loop-feature l = record {
  few : HasFewLeft l.features;
  numbers : l.self.numbers ≡ l.fn.self.numbers;
  reads : l.self.reads_globals ≡ l.fn.self.reads_globals;
  states : l.self.state_places ≡ l.fn.self.state_places;
  sound : IsSound l.self.cells.buckets;
  still : Still l.fn.self.cells.buckets l.self.cells.buckets;
  kept : (cell : Cell) → left_by (nat_eq l.fn.number cell.layer) (hits l.fn.id (features_left l.features) cell.feature)
      (reads_state (source_of l.fn.self.cells.buckets cell.layer cell.item)) (kept_at l.self.cells.buckets cell)
      ≡ left_by (nat_eq l.fn.number cell.layer) (hits l.fn.id (numbered 0 (layer_features (map tile_seen l.fn.tiles) (layer_seen l.fn.shown))) cell.feature)
      (reads_state (source_of l.fn.self.cells.buckets cell.layer cell.item)) (kept_at l.fn.self.cells.buckets cell);
}

abbrev pub decreases-loop-feature : goal.decreases-loop-feature
decreases-loop-feature l = length (features_left l.features)
