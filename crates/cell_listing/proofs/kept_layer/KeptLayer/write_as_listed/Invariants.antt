use Rattle.std.proofs.Common.{◌≡◌, ◌++◌, length, map}
use Rattle.style_layout.specs.CodeView.{tile_seen}
use Rattle.style_layout.specs.Walk.{HasFewLeft, features_left}
use Rattle.cell_listing.specs.KeptListing.{AreAllKnown, kept_lines, passed}
use Rattle.cell_listing.specs.SeenLayers.{layer_in, passed_in, values_in}
use Rattle.cell_listing.proofs.kept_layer.KeptLayer.write_as_listed.Given as goal

abbrev pub invariant-loop-found : goal.invariant-loop-found
invariant-loop-found g l =
    let kept = values_in l.self in
    let ps = (layer_in l.self).properties in
    let left = passed kept l.answer (features_left l.features) in
    record {
      lines : l.out.items ++ kept_lines kept ps left ≡ l.fn.out.items ++ kept_lines kept ps (passed_in l.self (map tile_seen l.fn.tiles));
      few : HasFewLeft l.features;
      known : AreAllKnown kept ps left;
    }

abbrev pub decreases-loop-found : goal.decreases-loop-found
decreases-loop-found g l = length (passed (values_in l.self) l.answer (features_left l.features))
