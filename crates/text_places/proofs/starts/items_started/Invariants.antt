use Rattle.std.proofs.Common.{◌≡◌, ◌++◌, drop}
use Rattle.decimal_json.specs.View.{trees}
use Rattle.text_places.specs.Starts.{item_starts, slices_seen}
use Rattle.text_places.proofs.starts.items_started.Given as goal

abbrev pub invariant-loop-item : goal.invariant-loop-item
invariant-loop-item l =
    slices_seen l.parts.items ++ item_starts (trees (drop l.item-index l.items)) l.rest ≡ item_starts (trees l.items) l.fn.text
