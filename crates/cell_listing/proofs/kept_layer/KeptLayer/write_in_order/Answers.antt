use Rattle.std.proofs.Common.{◌≡◌, ◌∙◌, ◌++◌, ℕ, List, ap, map, sym, subst}
use Rattle.std.specs.Prelude.{OnOk, Some}
use Rattle.tile_reader.specs.declared.tile.Feature.{Feature}
use Rattle.style_layout.specs.CodeView.{tile_seen}
use Rattle.cell_listing.specs.KeptListing.{AreAllKnown, AreKnown, key_goes_before, kept_lines}
use Rattle.cell_listing.specs.SeenLayers.{layer_in, numbered_seen, passed_in, property_in, values_in}
use Rattle.cell_listing.proofs.OrderLaws.{each_in_order, in_key_order}
use Rattle.cell_listing.proofs.kept_layer.KeptLayer.write_in_order.Goals as goal

pub write_keyed-requires-clause-known : goal.write_keyed-requires-clause-known
write_keyed-requires-clause-known g c =
    let self = c.args.self.now in
    let kept = values_in self in
    let ps = (layer_in self).properties in
    let p = property_in self c.args.sort.now in
    let nfs = passed_in self (map tile_seen c.args.tiles.now) in
    let sorted = ap (map numbered_seen) (c.as_slice.ensures.value ∙ c.in_ok-put_in_order.ensures)
    ∙ in_key_order kept p c.in_ok-keyed.keyed.items nfs c.in_ok-keyed.ensures in
    subst (λ (xs : List (ℕ × Feature)). AreAllKnown kept ps xs) (sym sorted)
    (each_in_order (λ (nf : ℕ × Feature). AreKnown kept (Some nf.0) ps) (key_goes_before kept p) nfs c.requires.known)

pub returns : goal.returns
returns g c =
    let self = c.args.self.now in
    let kept = values_in self in
    let ps = (layer_in self).properties in
    let p = property_in self c.args.sort.now in
    let nfs = passed_in self (map tile_seen c.args.tiles.now) in
    let sorted = ap (map numbered_seen) (c.as_slice.ensures.value ∙ c.in_ok-put_in_order.ensures)
    ∙ in_key_order kept p c.in_ok-keyed.keyed.items nfs c.in_ok-keyed.ensures in
    subst (λ (xs : List (ℕ × Feature)). OnOk c.write_keyed.result (c.write_keyed.new.out.items ≡ c.args.out.now.items ++ kept_lines kept ps xs))
    sorted c.write_keyed.ensures
