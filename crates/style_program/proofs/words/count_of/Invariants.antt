use Rattle.std.proofs.Common.{◌≡◌, ◌+◌, ◌≤◌, drop, map}
use Rattle.style_program.specs.Words.{count_of}
use Rattle.style_program.specs.WordsView.{tile_word}
use Rattle.style_program.proofs.words.count_of.Given as goal

abbrev pub invariant-loop-tile : goal.invariant-loop-tile
invariant-loop-tile l =
    (l.count + count_of l.source (map tile_word (drop l.tile-index l.tiles)) ≡ count_of l.source (map tile_word l.tiles))
    × (l.count ≤ l.tile-index)
