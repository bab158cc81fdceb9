use Rattle.std.proofs.Common.{◌∙◌, ◌++◌, ap}
use Rattle.listing_text.specs.Listing.{value_line}
use Rattle.style_layout.specs.Shown.{zoom_at}
use Rattle.asked_cells.specs.Asked.{cell_world}
use Rattle.asked_cells.specs.SeenCells.{cell_feature}
use Rattle.bare_listing.specs.Given.{outcome_in}
use Rattle.bare_listing.specs.SeenLayer.{property_in, scene_in}
use Rattle.bare_listing.proofs.bare_layer.BareLayer.write_property.Goals as goal

pub returns-in_ok-write_fixed-in-None-clause-line : goal.returns-in_ok-write_fixed-in-None-clause-line
returns-in_ok-write_fixed-in-None-clause-line g c =
    let l = c.args.self.now in
    let scene = scene_in g.V.TextTests.tests l in
    let p = property_in l c.args.property.now in
    let feature = cell_feature c.args.feature in
    c.in_ok-write_fixed-in-None.ensures (cell_world scene (zoom_at scene.zoom p.row.place) feature)
    ∙ ap (λ margin. c.args.out.now.items ++ value_line margin p.row.name (outcome_in scene feature p)) c.margin_of-margin.ensures
