-- The part of a run that reads a style and tiles of its sources. Source: own.
use Rattle.std.specs.Prelude.{ℕ, ◌-◌, min, List, [], ◌∷◌, ◌++◌, length, Result, Ok, Err}
use Rattle.decimal_json.specs.Tree.{Tree}
use Rattle.decimal_json.specs.declared.paths.PathPart.{PathPart}
use Rattle.tile_reader.specs.Tile.{tile_of}
use Rattle.tile_reader.specs.declared.fault.TileFault.{TileFault}
use Rattle.tile_reader.specs.declared.tile.TileLayer.{TileLayer}
use Rattle.program_runs.specs.declared.status.Ending.TheVariants.{Found}
use Rattle.program_runs.specs.Outcome.{said}
use Rattle.program_runs.specs.Refusals.{too_long, tile_text, tile_number}
use Rattle.program_runs.specs.Runs.{Run, ends, reads}
use Rattle.style_layout.specs.Shown.{SourceTile}
use Rattle.style_program.specs.Refusals.{no_tile}
use Rattle.style_program.specs.StyleFile.{style_part}
use Rattle.style_program.specs.ValidateRun.{broken_text}
use Rattle.style_program.specs.Words.{EvalWords, TileWord, count_of}
use Rattle.style_rules.specs.Findings.{findings}

-- of one tile, and of all tiles of a run, in bytes
abbrev pub tile_limit : ℕ
tile_limit = 16777216

abbrev pub tiles_limit : ℕ
tiles_limit = 33554432

-- ---- one tile: it is read, of `count` bytes at most, and the run goes on with it and the count of its bytes

abbrev pub tile_or : (source : List ℕ) (number : ℕ) → (List TileLayer → Run) → Result (List TileLayer) TileFault → Run
tile_or source number after (Ok tile) = after tile
tile_or source number after (Err fault) = ends (no_tile source number fault)

abbrev pub tile_from : (number : ℕ) (source bytes : List ℕ) → (ℕ × List TileLayer → Run) → Run
tile_from number source bytes after = tile_or source number (λ tile. after (length bytes, tile)) (tile_of bytes)

abbrev pub tile_part : (number limit : ℕ) → TileWord → (ℕ × List TileLayer → Run) → Run
tile_part number limit w after =
    reads (too_long (tile_text w.0) (tile_number number)) w.1 limit (λ bytes. tile_from number w.0 bytes after)

-- ---- all tiles, in the order of the words. The words and tiles before are those so far, and `left` bytes
-- are left

abbrev pub tiles_after : (before : List TileWord) (got : List SourceTile) (left : ℕ) → List TileWord →
    (List SourceTile → Run) → Run
tiles_after before got left [] after = after got
tiles_after before got left (w ∷ ws) after =
    tile_part (count_of w.0 before) (min left tile_limit) w (λ read.
    tiles_after (before ++ w ∷ []) (got ++ (w.0, read.1) ∷ []) (left - read.0) ws after)

abbrev pub tiles_part : List TileWord → (List SourceTile → Run) → Run
tiles_part ws after = tiles_after [] [] tiles_limit ws after

-- ---- a style and its tiles

-- a style with findings is answered as `validate` answers it, and no tile is read
abbrev pub sound_or_broken : List (List PathPart × ℕ) → Run → Run
sound_or_broken [] next = next
sound_or_broken (f ∷ found) next = ends (said (broken_text (f ∷ found)) Found)

-- a document without findings, and tiles
abbrev pub LoadedStyle : Type 0
LoadedStyle = Tree × List SourceTile

abbrev pub load_part : EvalWords → (LoadedStyle → Run) → Run
load_part w after =
    style_part w.style (λ document.
    sound_or_broken (findings document) (tiles_part w.tiles (λ tiles. after (document, tiles))))
