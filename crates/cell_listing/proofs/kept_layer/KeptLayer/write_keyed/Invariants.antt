use Rattle.std.proofs.Common.{◌≡◌, ◌++◌, List, drop, map}
use Rattle.cell_listing.specs.KeptListing.{AreAllKnown, kept_lines}
use Rattle.cell_listing.specs.SeenLayers.{layer_in, numbered_seen, values_in}
use Rattle.cell_listing.specs.declared.feature_order.KeyedFeature.{KeyedFeature}
use Rattle.cell_listing.proofs.kept_layer.KeptLayer.write_keyed.Given as goal

abbrev pub invariant-loop-one : goal.invariant-loop-one
invariant-loop-one g l =
    let kept = values_in l.self in
    let ps = (layer_in l.self).properties in
    let lines = λ (ks : List KeyedFeature). kept_lines kept ps (map numbered_seen ks) in
    record {
      lines : l.out.items ++ lines (drop l.one-index l.keyed) ≡ l.fn.out.items ++ lines l.keyed;
      known : AreAllKnown kept ps (map numbered_seen (drop l.one-index l.keyed));
    }
