use Rattle.std.proofs.Common.{◌≡◌, ◌<◌, ℕ, false}
use Rattle.layer_buckets.specs.Cells.{reads_state}
use Rattle.layer_buckets.specs.Seen.{source_of}
use Rattle.layer_buckets.specs.declared.cell.CellItem.TheVariants.{Property}
use Rattle.kept_layers.proofs.kept_layers.KeptLayers.layer_reads_state.Given as goal

abbrev pub invariant-loop-row : goal.invariant-loop-row
invariant-loop-row l = (m : ℕ) → m < l.row → reads_state (source_of l.self.cells.buckets l.number (Property m)) ≡ false
