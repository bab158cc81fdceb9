use Rattle.std.proofs.Common.{◌≡◌, false, [], length}
use Rattle.tile_reader.specs.Message.{message}
use Rattle.tile_reader.specs.Read.{read_fields}
use Rattle.tile_reader.specs.Tile.{tile_step}
use Rattle.tile_reader.specs.View.{left_of}
use Rattle.tile_reader.proofs.reading.read_message.Given as goal

abbrev pub invariant-loop-tile : goal.invariant-loop-tile
invariant-loop-tile l = record {
  going : l.fields.failed ≡ false;
  read : read_fields tile_step l.tile (left_of l.fields) ≡ read_fields tile_step [] (message 0 l.fn.bytes);
}

abbrev pub decreases-loop-tile : goal.decreases-loop-tile
decreases-loop-tile l = length l.fields.bytes
