-- Sources with other numbers in the evaluator.
use Rattle.std.specs.Prelude.{ℕ, Option, Some, None, if◌then◌else◌}
use Rattle.layer_buckets.specs.Cells.{is_item}
use Rattle.layer_buckets.specs.KeptSlots.{SeenColumn}
use Rattle.layer_buckets.specs.declared.cell.CellItem.{CellItem}
use Rattle.layer_buckets.specs.declared.cell.Source.{Source}

-- a source with another number
abbrev pub slotted : ℕ → Option Source → Option Source
slotted number (Some s) =
    Some (record { item = s.item; slot = number; mentions = s.mentions; paint = s.paint; globals = s.globals })
slotted number None = None

-- the source of one item has another number, and those of the others stay
abbrev pub slotted_at : ℕ → CellItem → ℕ → ℕ → CellItem → Option Source → Option Source
slotted_at layer item number l i source = if is_item layer item l i then slotted number source else source

-- a column whose source has another number
abbrev pub column_slotted : ℕ → Option SeenColumn → Option SeenColumn
column_slotted number (Some c) = Some (record c { source = slotted number c.source })
column_slotted number None = None
