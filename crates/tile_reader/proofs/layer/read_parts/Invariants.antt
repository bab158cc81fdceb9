use Rattle.std.proofs.Common.{◌≡◌, false, length}
use Rattle.tile_reader.specs.Message.{message}
use Rattle.tile_reader.specs.Read.{read_fields}
use Rattle.tile_reader.specs.Layer.{layer_step, no_parts}
use Rattle.tile_reader.specs.View.{HasAllTags, left_of, parts_seen}
use Rattle.tile_reader.proofs.layer.read_parts.Given as goal

abbrev pub invariant-loop-parts : goal.invariant-loop-parts
invariant-loop-parts l = record {
  going : l.fields.failed ≡ false;
  tags : HasAllTags l.parts.features.items l.parts.tags.items;
  read : read_fields layer_step (parts_seen l.parts) (left_of l.fields) ≡ read_fields layer_step no_parts (message l.fn.start l.fn.content);
}

abbrev pub decreases-loop-parts : goal.decreases-loop-parts
decreases-loop-parts l = length l.fields.bytes
