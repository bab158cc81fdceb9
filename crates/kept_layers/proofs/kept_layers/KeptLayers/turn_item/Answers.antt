use Rattle.std.proofs.Common.{◌≡◌, sym, ◌∙◌}
use Rattle.std.specs.Prelude.{true}
use Rattle.std.proofs.lemmas.Result.{on_ok_weaker}
use Rattle.decimal_json.specs.Tree.{object, fields_of}
use Rattle.layer_buckets.specs.Cells.{reads_globals}
use Rattle.layer_buckets.specs.Seen.{source_of}
use Rattle.cell_sources.specs.CellExpressions.{item_expression}
use Rattle.form_pool.specs.PoolSlots.{pool_slots}
use Rattle.kept_layers.proofs.GlobalLaws.{set_leaves, set_turns}
use Rattle.kept_layers.proofs.kept_layers.KeptLayers.turn_item.Goals as goal

pub returns-clause-turned : goal.returns-clause-turned
returns-clause-turned c =
    let old = c.args.self.now.cells.buckets in
    let new = c.set_item.new.buckets in
    let values = c.args.values.now in
    let e = item_expression values.globals.now values.layer_type (object (fields_of values.members.now)) c.args.item in
    let flag : reads_globals (source_of old c.args.number c.args.item) ≡ true =
    sym c.item_reads_globals.ensures ∙ c.if-not-item_reads_globals.false in
    on_ok_weaker c.set_item.result
    (λ sets. set_turns pool_slots c.args.number c.args.item e old new c.set_item.ensures.kept sets flag)
    c.set_item.ensures.source

pub returns-clause-left : goal.returns-clause-left
returns-clause-left c =
    let old = c.args.self.now.cells.buckets in
    let new = c.set_item.new.buckets in
    let values = c.args.values.now in
    let e = item_expression values.globals.now values.layer_type (object (fields_of values.members.now)) c.args.item in
    on_ok_weaker c.set_item.result
    (λ sets. set_leaves pool_slots c.args.number c.args.item e old new c.set_item.ensures.kept sets)
    c.set_item.ensures.source
