use Rattle.std.proofs.Common.{◌≡◌, length}
use Rattle.style_layout.specs.Walk.{HasFewLeft, features_left}
use Rattle.cell_listing.specs.KeptListing.{passed}
use Rattle.cell_listing.specs.SeenLayers.{values_in}
use Rattle.cell_listing.proofs.kept_layer.KeptLayer.next_passed.Given as goal

abbrev pub invariant-loop-found : goal.invariant-loop-found
invariant-loop-found g l = record {
  left : passed (values_in l.self) l.answer (features_left l.fn.features) ≡ passed (values_in l.self) l.answer (features_left l.features);
  few : HasFewLeft l.features;
}

abbrev pub decreases-loop-found : goal.decreases-loop-found
decreases-loop-found g l = length (features_left l.features)
