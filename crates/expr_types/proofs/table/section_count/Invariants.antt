use Rattle.std.proofs.Common.{◌≡◌, ◌≤◌, ◌+◌, drop}
use Rattle.expr_types.specs.OwnTable.{section_count}
use Rattle.expr_types.proofs.table.section_count.Given as goal

abbrev pub invariant-loop-piece : goal.invariant-loop-piece
invariant-loop-piece l = (l.count ≤ l.piece-index) × (l.count + section_count (drop l.piece-index l.pieces) ≡ section_count l.pieces)
