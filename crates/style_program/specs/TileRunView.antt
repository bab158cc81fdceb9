-- The part of a run that reads the tiles of words, from a word on.
use Rattle.std.specs.Prelude.{ℕ, List, take, drop, map}
use Rattle.decimal_json.specs.View.{tree_of}
use Rattle.program_runs.specs.Runs.{Run}
use Rattle.style_layout.specs.CodeView.{tile_seen}
use Rattle.style_layout.specs.Shown.{SourceTile}
use Rattle.style_program.specs.ShownRun.{tiles_after}
use Rattle.style_program.specs.ShownRun as shown
use Rattle.style_program.specs.WordsView.{tile_word}
use Rattle.style_program.specs.declared.loading.LoadedStyle.{LoadedStyle}
use Rattle.style_program.specs.declared.words.TileWord.{TileWord}

-- a style and its tiles
abbrev pub shown_seen : LoadedStyle → shown.LoadedStyle
shown_seen s = (tree_of s.style, map tile_seen s.tiles.items)

-- the words before it were read as these tiles, and `left` bytes are left
abbrev pub tiles_from : (i : ℕ) → List TileWord → (got : List SourceTile) (left : ℕ) → (List SourceTile → Run) → Run
tiles_from i words got left after =
    tiles_after (map tile_word (take i words)) got left (map tile_word (drop i words)) after
