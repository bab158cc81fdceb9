use Rattle.std.proofs.Common.{◌≡◌, ◌∙◌, ℕ, Option, ap}
use Rattle.layer_buckets.specs.declared.cell.CellItem.TheVariants as items
use Rattle.style_layout.specs.SortKeys.{key_of}
use Rattle.cell_listing.specs.KeptListing.{outcome_by}
use Rattle.cell_listing.specs.SeenLayers.{property_in, values_in}
use Rattle.cell_listing.proofs.kept_layer.KeptLayer.cell_key.Goals as goal

pub returns : goal.returns
returns g c =
    let self = c.args.self.now in
    let sort = c.args.sort.now in
    let fallback = (property_in self sort).fallback in
    c.number_in.ensures fallback
    ∙ ap (λ o. key_of (outcome_by fallback o))
    (c.value.ensures
    ∙ ap (λ (feature : Option ℕ). values_in self (record { feature = feature; item = items.Property sort.row.number }))
    (c.key_feature.ensures self.layer))
