use Rattle.std.proofs.Common.{◌≡◌, drop}
use Rattle.std.specs.Prelude.{map}
use Rattle.decimal_json.specs.View.{trees}
use Rattle.legacy_functions.specs.Form.{each_stop}
use Rattle.legacy_functions.specs.PlacedView.{placed_stop_seen}
use Rattle.property_tables.specs.RowView.{row_seen}
use Rattle.legacy_functions.proofs.StopLists.{after_found}
use Rattle.legacy_functions.proofs.placed.each_stop.Given as goal

abbrev pub invariant-loop-item : goal.invariant-loop-item
invariant-loop-item l = after_found (map placed_stop_seen l.stops.items) (each_stop (row_seen l.row) l.any (trees (drop l.item-index l.items))) ≡ each_stop (row_seen l.row) l.any (trees l.items)
