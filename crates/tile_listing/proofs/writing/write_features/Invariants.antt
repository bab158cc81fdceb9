use Rattle.std.proofs.Common.{◌≡◌, ◌++◌, drop}
use Rattle.tile_listing.specs.TileListing.{features_lines}
use Rattle.tile_listing.proofs.writing.write_features.Given as goal

abbrev pub invariant-loop-place : goal.invariant-loop-place
invariant-loop-place l =
    l.out.items ++ features_lines l.place (drop l.place l.features) ≡ l.fn.out.items ++ features_lines 0 l.features
