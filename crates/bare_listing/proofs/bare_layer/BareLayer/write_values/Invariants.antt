use Rattle.std.proofs.Common.{◌≡◌, ◌++◌, ◌+◌, ◌≤◌, List, drop, map}
use Rattle.listing_text.specs.Listing.{value_lines}
use Rattle.style_layout.specs.declared.properties.Property.{Property}
use Rattle.asked_cells.specs.SeenCells.{cell_feature}
use Rattle.bare_listing.specs.Costs.{nodes_by, one_of, values_cost}
use Rattle.bare_listing.specs.Given.{AreGivenBy, margin_of, shown_values}
use Rattle.bare_listing.specs.SeenLayer.{property_in, scene_in, slots_in, sources_in}
use Rattle.bare_listing.proofs.bare_layer.BareLayer.write_values.Given as goal

abbrev pub invariant-loop-property : goal.invariant-loop-property
invariant-loop-property g l =
    let scene = scene_in g.V.TextTests.tests l.self in
    let slots = slots_in g.E.CountedEvaluator.slots l.self in
    let sources = sources_in l.self in
    let feature = cell_feature l.feature in
    let lines = λ (ps : List Property). value_lines (margin_of feature) (shown_values scene feature (map (property_in l.self) ps)) in
    let nodes = λ (ps : List Property). values_cost (nodes_by slots) sources feature (map (property_in l.self) ps) in
    let number = λ (ps : List Property). values_cost one_of sources feature (map (property_in l.self) ps) in
    let left = drop l.property-index l.properties in
    record {
      lines : l.out.items ++ lines left ≡ l.fn.out.items ++ lines l.properties;
      given : AreGivenBy scene slots sources (map (property_in l.self) left);
      number : l.number + number left ≡ number l.properties;
      least : l.fn.steps + l.number ≤ l.steps;
      most : l.steps + nodes left ≤ l.fn.steps + nodes l.properties;
    }
