use Rattle.std.proofs.Common.{◌≡◌, ◌≤◌, false, length, take, drop}
use Rattle.tile_reader.specs.Message.{message}
use Rattle.tile_reader.specs.Read.{read_fields}
use Rattle.tile_reader.specs.Feature.{feature_step, untagged}
use Rattle.tile_reader.specs.View.{left_of, tagged_seen}
use Rattle.tile_reader.proofs.feature.read_feature.Given as goal

abbrev pub invariant-loop-field : goal.invariant-loop-field
invariant-loop-field l = record {
  going : l.fields.failed ≡ false;
  before : take l.first l.tags.items ≡ l.fn.tags.items;
  longer : l.first ≤ length l.tags.items;
  read : read_fields feature_step (tagged_seen l.feature (drop l.first l.tags.items)) (left_of l.fields) ≡ read_fields feature_step (untagged l.fn.at) (message l.fn.start l.fn.content);
}

abbrev pub decreases-loop-field : goal.decreases-loop-field
decreases-loop-field l = length l.fields.bytes
