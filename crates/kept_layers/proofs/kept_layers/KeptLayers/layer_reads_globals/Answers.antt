use Rattle.std.proofs.Common.{sym, ◌∙◌, arith}
use Rattle.layer_buckets.specs.Cells.{reads_globals}
use Rattle.kept_layers.proofs.NumberedLaws.{all_unread, one_unread}
use Rattle.kept_layers.proofs.kept_layers.KeptLayers.layer_reads_globals.Goals as goal

pub loop-row-preserved : goal.loop-row-preserved
loop-row-preserved c = one_unread reads_globals c.args.self.now.cells.buckets c.args.number c.loop-row.row c.loop-row.invariant
    (sym c.item_reads_globals.ensures ∙ c.if-item_reads_globals.false)

pub returns : goal.returns
returns c = λ off. all_unread reads_globals c.args.self.now.cells.buckets c.args.number c.loop-row.row c.loop-row.invariant c.args.layer_type
    (omega (arith, c.row_count-row-end.ensures, c.loop-row-test.false)) (sym c.item_reads_globals-2.ensures ∙ off)
