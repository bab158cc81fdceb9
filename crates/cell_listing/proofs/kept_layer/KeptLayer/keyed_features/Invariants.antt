use Rattle.std.proofs.Common.{◌≡◌, ◌++◌, length, map}
use Rattle.style_layout.specs.CodeView.{tile_seen}
use Rattle.style_layout.specs.Walk.{HasFewLeft, features_left}
use Rattle.cell_listing.specs.KeptListing.{passed}
use Rattle.cell_listing.specs.SeenLayers.{keyed_seen, passed_in, property_in, values_in, with_key}
use Rattle.cell_listing.proofs.kept_layer.KeptLayer.keyed_features.Given as goal

abbrev pub invariant-loop-number : goal.invariant-loop-number
invariant-loop-number g l =
    let kept = values_in l.self in
    let keyed = map (with_key kept (property_in l.self l.sort)) in
    record {
      keyed : map keyed_seen l.keyed.items ++ keyed (passed kept l.answer (features_left l.features))
          ≡ keyed (passed_in l.self (map tile_seen l.fn.tiles));
      few : HasFewLeft l.features;
    }

abbrev pub decreases-loop-number : goal.decreases-loop-number
decreases-loop-number g l = length (passed (values_in l.self) l.answer (features_left l.features))
