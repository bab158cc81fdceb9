use Rattle.std.proofs.Common.{◌≡◌, subst}
use Rattle.std.proofs.lemmas.Result.{on_ok_weaker}
use Rattle.decimal_json.specs.Tree.{object, fields_of}
use Rattle.decimal_json.specs.View.{tree_of}
use Rattle.asked_cells.specs.Expressions.{HasExpressions, LayerExpressions}
use Rattle.cell_sources.specs.CellExpressions.{item_expression}
use Rattle.cell_sources.specs.Sourced.{HasSources}
use Rattle.form_pool.specs.PoolSlots.{pool_slots}
use Rattle.kept_layers.specs.Changes.{globals_of}
use Rattle.kept_layers.specs.KeptLayers.{layer_expressions}
use Rattle.kept_layers.proofs.kept_layers.KeptLayers.renew_layer.Goals as goal

pub returns-clause-renewed : goal.returns-clause-renewed
returns-clause-renewed c =
    let one = c.args.one.now in
    let values = c.values-values.result in
    let v = c.values-values.ensures in
    let expressions : LayerExpressions = item_expression values.globals.now values.layer_type (object (fields_of values.members.now)) in
    let is : expressions ≡ layer_expressions (globals_of one) (tree_of one.layer.now) = λ j. item_expression (v.globals j) (v.layer_type j) (v.members j) in
    on_ok_weaker c.renew_sources.result
    (subst (λ (x : LayerExpressions). HasSources c.args.number x c.args.self.now.cells.buckets
    → HasExpressions pool_slots c.args.number x c.renew_sources.new.buckets) is)
    c.renew_sources.ensures.renewed
