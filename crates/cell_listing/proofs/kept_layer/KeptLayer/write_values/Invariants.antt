use Rattle.std.proofs.Common.{◌≡◌, ◌++◌, List, drop, map}
use Rattle.listing_text.specs.Listing.{value_lines}
use Rattle.style_layout.specs.declared.properties.Property.{Property}
use Rattle.cell_listing.specs.KeptListing.{AreKnown, kept_values}
use Rattle.cell_listing.specs.SeenLayers.{property_in, values_in}
use Rattle.cell_listing.proofs.kept_layer.KeptLayer.write_values.Given as goal

abbrev pub invariant-loop-property : goal.invariant-loop-property
invariant-loop-property g l =
    let properties = l.self.layer.prepared.now.properties.items in
    let left = map (property_in l.self) (drop l.property-index properties) in
    let lines = λ (ps : List Property). value_lines l.margin (kept_values (values_in l.self) l.feature (map (property_in l.self) ps)) in
    record {
      lines : l.out.items ++ lines (drop l.property-index properties) ≡ l.fn.out.items ++ lines properties;
      known : AreKnown (values_in l.self) l.feature left;
    }
