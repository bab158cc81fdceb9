use Rattle.std.proofs.Common.{◌≡◌, ◌++◌, false, length}
use Rattle.tile_reader.specs.View.{left_of}
use Rattle.tile_listing.specs.Extents.{extents_of, layer_extents}
use Rattle.tile_listing.proofs.extents.extents_of.Given as goal

abbrev pub invariant-loop-field : goal.invariant-loop-field
invariant-loop-field l = record {
  going : l.fields.failed ≡ false;
  read : l.extents.items ++ layer_extents (left_of l.fields).fields ≡ extents_of l.fn.bytes;
}

abbrev pub decreases-loop-field : goal.decreases-loop-field
decreases-loop-field l = length l.fields.bytes
