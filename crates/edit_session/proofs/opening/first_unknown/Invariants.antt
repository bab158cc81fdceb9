use Rattle.std.proofs.Common.{◌≡◌, drop, map}
use Rattle.decimal_json.specs.View.{tree_of}
use Rattle.style_layout.specs.CodeView.{tile_seen}
use Rattle.edit_session.specs.Opening.{first_failing, has_source}
use Rattle.edit_session.proofs.opening.first_unknown.Given as goal

abbrev pub invariant-loop-tile : goal.invariant-loop-tile
invariant-loop-tile l =
    first_failing (has_source (tree_of l.style)) (map tile_seen (drop l.tile-index l.tiles)) ≡ first_failing (has_source (tree_of l.style)) (map tile_seen l.tiles)
