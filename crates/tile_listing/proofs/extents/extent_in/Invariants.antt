use Rattle.std.proofs.Common.{◌≡◌, false, length}
use Rattle.tile_reader.specs.View.{left_of}
use Rattle.tile_listing.specs.Extents.{extent_in}
use Rattle.tile_listing.specs.ExtentSteps.{extent_from}
use Rattle.tile_listing.proofs.extents.extent_in.Given as goal

abbrev pub invariant-loop-field : goal.invariant-loop-field
invariant-loop-field l = record {
  going : l.fields.failed ≡ false;
  read : extent_from l.extent (left_of l.fields).fields ≡ extent_in l.fn.content;
}

abbrev pub decreases-loop-field : goal.decreases-loop-field
decreases-loop-field l = length l.fields.bytes
