use Rattle.std.proofs.Common.{◌≡◌, ap, subst, arith, ◌∙◌}
use Rattle.std.specs.Prelude.{option_and_then}
use Rattle.std.proofs.lemmas.Option.{slice_get_past}
use Rattle.decimal_json.specs.Tree.{object, fields_of}
use Rattle.decimal_json.specs.View.{tree_of}
use Rattle.property_tables.specs.Rows.{rows_of}
use Rattle.layer_buckets.specs.declared.cell.CellItem.{CellItem}
use Rattle.asked_cells.specs.Expressions.{LayerExpressions}
use Rattle.cell_sources.specs.CellExpressions.{item_expression, row_expression}
use Rattle.cell_sources.proofs.SourcedLaws.{others_again}
use Rattle.form_pool.specs.PoolSlots.{pool_slots}
use Rattle.kept_layers.specs.Changes.{globals_of}
use Rattle.kept_layers.specs.KeptLayers.{layer_expressions}
use Rattle.kept_layers.specs.Turning.{TurnsItem}
use Rattle.kept_layers.proofs.GlobalLaws.{all_turned, first_more, on_ok_both}
use Rattle.kept_layers.proofs.kept_layers.KeptLayers.turn_layer.Goals as goal

pub loop-row-preserved : goal.loop-row-preserved
loop-row-preserved c =
    let old = c.args.self.now.cells.buckets in
    let now = c.loop-row.self.cells.buckets in
    let new = c.turn_item.new.self.cells.buckets in
    let values = c.values-values.result in
    let expressions : LayerExpressions = item_expression values.globals.now values.layer_type (object (fields_of values.members.now)) in
    let i = c.loop-row.invariant in
    let e = c.in_ok-turn_item.ensures in
    record {
      numbers = e.numbers ∙ i.numbers;
      reads = e.reads ∙ i.reads;
      states = e.states ∙ i.states;
      sound = e.sound;
      others = others_again pool_slots c.args.number old now new i.others e.others;
      turned = first_more pool_slots c.args.number expressions old c.loop-row.row now new i.turned i.others.expressions e.others.expressions e.turned e.left;
    }

pub returns-clause-turned : goal.returns-clause-turned
returns-clause-turned c =
    let old = c.args.self.now.cells.buckets in
    let now = c.loop-row.self.cells.buckets in
    let new = c.turn_item-2.new.self.cells.buckets in
    let one = c.args.one.now in
    let values = c.values-values.result in
    let expressions : LayerExpressions = item_expression values.globals.now values.layer_type (object (fields_of values.members.now)) in
    let read = row_expression values.globals.now values.layer_type (object (fields_of values.members.now)) in
    let i = c.loop-row.invariant in
    let e = c.turn_item-2.ensures in
    let v = c.values-values.ensures in
    let is : expressions ≡ layer_expressions (globals_of one) (tree_of one.layer.now) = λ j. item_expression (v.globals j) (v.layer_type j) (v.members j) in
    on_ok_both c.turn_item-2.result
    (λ turns left. subst (λ (x : LayerExpressions). (item : CellItem) → TurnsItem pool_slots c.args.number item (x item) old new) is
    (all_turned pool_slots c.args.number expressions old c.loop-row.row now new i.turned i.others.expressions e.others.expressions turns left
    (λ m h. ap (option_and_then read) (slice_get_past (rows_of values.layer_type) m (omega (arith, h, c.row_count-row-end.ensures, c.loop-row-test.false))))))
    e.turned e.left

pub returns-in_err-turn_item-clause-others : goal.returns-in_err-turn_item-clause-others
returns-in_err-turn_item-clause-others c =
    others_again pool_slots c.args.number c.args.self.now.cells.buckets c.loop-row.self.cells.buckets c.turn_item.new.self.cells.buckets
    c.loop-row.invariant.others c.turn_item.ensures.others

pub returns-clause-others : goal.returns-clause-others
returns-clause-others c =
    others_again pool_slots c.args.number c.args.self.now.cells.buckets c.loop-row.self.cells.buckets c.turn_item-2.new.self.cells.buckets
    c.loop-row.invariant.others c.turn_item-2.ensures.others
