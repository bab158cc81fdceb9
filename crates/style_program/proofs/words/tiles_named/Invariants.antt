use Rattle.std.proofs.Common.{◌≡◌, ◌++◌, drop, map}
use Rattle.std.specs.Prelude.{option_map, string_bytes}
use Rattle.style_program.specs.Words.{tiles_named}
use Rattle.style_program.specs.WordsView.{tile_word}
use Rattle.style_program.proofs.words.tiles_named.Given as goal

abbrev pub invariant-loop-word : goal.invariant-loop-word
invariant-loop-word l =
    option_map (λ later. map tile_word l.tiles.items ++ later) (tiles_named (map string_bytes (drop l.word-index l.words)))
    ≡ tiles_named (map string_bytes l.words)
