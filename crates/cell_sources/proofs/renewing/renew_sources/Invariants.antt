use Rattle.decimal_json.specs.Tree.{object, fields_of}
use Rattle.form_pool.specs.PoolSlots.{pool_slots}
use Rattle.layer_buckets.specs.Seen.{IsSound}
use Rattle.cell_sources.specs.CellExpressions.{item_expression}
use Rattle.cell_sources.specs.Sourced.{FirstAreRenewed, KeepsNumbers, KeepsSources}
use Rattle.cell_sources.proofs.renewing.renew_sources.Given as goal

abbrev pub invariant-loop-row : goal.invariant-loop-row
invariant-loop-row l = record {
  sound : IsSound l.buckets;
  sources : KeepsSources l.fn.buckets l.buckets;
  others : KeepsNumbers pool_slots l.number l.fn.buckets l.buckets;
  first : FirstAreRenewed pool_slots l.number l.row
      (item_expression l.layer.globals.now l.layer.layer_type (object (fields_of l.layer.members.now))) l.fn.buckets l.buckets;
}
