use Rattle.std.proofs.Common.{◌≡◌, ◌++◌, drop}
use Rattle.tile_listing.specs.TileListing.{layers_lines}
use Rattle.tile_listing.proofs.writing.write_layers.Given as goal

abbrev pub invariant-loop-place : goal.invariant-loop-place
invariant-loop-place l =
    l.out.items ++ layers_lines l.extents l.place (drop l.place l.layers) ≡ l.fn.out.items ++ layers_lines l.extents 0 l.layers
