use Rattle.std.proofs.Common.{◌≡◌, false, length}
use Rattle.std.specs.Prelude.{option_map, None}
use Rattle.tile_reader.specs.Message.{message}
use Rattle.tile_reader.specs.Read.{read_fields}
use Rattle.tile_reader.specs.Value.{value_step}
use Rattle.tile_reader.specs.View.{left_of, value_seen}
use Rattle.tile_reader.proofs.value.read_value.Given as goal

abbrev pub invariant-loop-field : goal.invariant-loop-field
invariant-loop-field l = record {
  going : l.fields.failed ≡ false;
  read : read_fields value_step (option_map value_seen l.held) (left_of l.fields) ≡ read_fields value_step None (message l.fn.start l.fn.content);
}

abbrev pub decreases-loop-field : goal.decreases-loop-field
decreases-loop-field l = length l.fields.bytes
