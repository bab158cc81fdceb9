use Rattle.std.proofs.Common.{◌≡◌, ap, sym, subst, Some, ◌∙◌}
use Rattle.std.specs.Prelude.{option_map}
use Rattle.std.proofs.lemmas.Result.{on_ok_weaker}
use Rattle.property_tables.specs.Rows.{row_of}
use Rattle.property_tables.specs.RowView.{numbered_seen}
use Rattle.decimal_json.specs.View.{tree_of}
use Rattle.form_pool.specs.PoolSlots.{pool_slots}
use Rattle.kept_layers.specs.KeptLayers.{type_of}
use Rattle.kept_layers.specs.EditedKept.{item_named, numbered_item}
use Rattle.kept_layers.specs.Following.{ChangesAt, ChangesItemAt}
use Rattle.kept_layers.proofs.EditedItems.{row_within}
use Rattle.kept_layers.proofs.following.change_property.Goals as goal

pub change-requires-clause-item : goal.change-requires-clause-item
change-requires-clause-item c =
    let type = ap (λ l. l.type) c.one-one.ensures.one.prepared in
    let named : row_of (type_of (tree_of c.one-one.result.layer.now)) c.args.place c.args.name.now ≡ Some (numbered_seen c.in-Some-row.row) =
    (λ i. row_of (sym type i) c.args.place (sym c.as_str.ensures i)) ∙ (sym c.row.ensures ∙ ap (option_map numbered_seen) c.in-Some-row.is) in
    row_within (type_of (tree_of c.one-one.result.layer.now)) c.args.place c.args.name.now (numbered_seen c.in-Some-row.row) named

pub returns-in-Some-row : goal.returns-in-Some-row
returns-in-Some-row c =
    let style = c.args.style.now in
    let type = ap (λ l. l.type) c.one-one.ensures.one.prepared in
    let named : row_of (type_of (tree_of c.one-one.result.layer.now)) c.args.place c.args.name.now ≡ Some (numbered_seen c.in-Some-row.row) =
    (λ i. row_of (sym type i) c.args.place (sym c.as_str.ensures i)) ∙ (sym c.row.ensures ∙ ap (option_map numbered_seen) c.in-Some-row.is) in
    let item = ap (item_named c.args.place c.args.name.now) (sym c.one-one.ensures.layer) ∙ ap numbered_item named in
    on_ok_weaker c.change.result
    (λ done. subst (λ o. ChangesAt pool_slots style o (item_named c.args.place c.args.name.now) c.args.kept.now c.change.new.self) (sym c.in-Some.is)
    (subst (λ o. ChangesItemAt pool_slots style c.in-Some.layer o c.args.kept.now c.change.new.self) (sym item)
    (c.one-one.result, record { layer = c.one-one.ensures.layer; globals = c.one-one.ensures.globals; tiles = c.one-one.ensures.tiles }, done)))
    c.change.ensures
