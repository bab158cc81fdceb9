use Rattle.std.proofs.Common.{◌≡◌, ◌++◌, drop, flat_map}
use Rattle.prop_values.specs.ViewParts.{entries_view}
use Rattle.tile_listing.specs.TileListing.{property_line}
use Rattle.tile_listing.proofs.writing.write_entries.Given as goal

abbrev pub invariant-loop-entry : goal.invariant-loop-entry
invariant-loop-entry l =
    l.out.items ++ flat_map property_line (entries_view (drop l.entry-index l.entries)) ≡ l.fn.out.items ++ flat_map property_line (entries_view l.entries)
