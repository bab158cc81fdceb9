use Rattle.std.proofs.Common.{ap, sym, ◌∙◌}
use Rattle.decimal_json.specs.Tree.{object, fields_of}
use Rattle.form_pool.specs.PoolSlots.{pool_slots}
use Rattle.layer_buckets.specs.declared.cell.CellItem.TheVariants as items
use Rattle.cell_sources.specs.CellExpressions.{item_expression}
use Rattle.cell_sources.proofs.UnsetItems.{needs_no_source}
use Rattle.cell_sources.proofs.sources.add_property.Goals as goal

pub returns-clause-source : goal.returns-clause-source
returns-clause-source c =
    let layer = c.args.layer.now in
    let item = items.Property c.args.row in
    needs_no_source pool_slots c.args.number item _ c.args.buckets.now
    (ap (λ members. item_expression layer.globals.now layer.layer_type (object (fields_of members)) item) (sym c.requires.placed)
    ∙ c.is_set.ensures c.if-is_set.false layer.globals.now)
    c.requires.bare
