-- The run of `tile`: what a tile holds, or why the bytes are none. Source: own.
use Rattle.std.specs.Prelude.{ℕ, List, Result, Ok, Err}
use Rattle.program_runs.specs.declared.status.Ending.TheVariants.{Fine}
use Rattle.program_runs.specs.Outcome.{RunOutcome, said}
use Rattle.program_runs.specs.Refusals.{too_long, tile_text, tile_number}
use Rattle.program_runs.specs.Runs.{Run, ends, reads}
use Rattle.tile_listing.specs.TileListing.{tile_listing}
use Rattle.tile_reader.specs.Tile.{tile_of}
use Rattle.tile_reader.specs.declared.fault.TileFault.{TileFault}
use Rattle.tile_reader.specs.declared.tile.TileLayer.{TileLayer}
use Rattle.style_program.specs.Refusals.{no_tile}
use Rattle.style_program.specs.ShownRun.{tile_limit}

-- a refusal has the name of the file in the place of a source
abbrev pub listed_or_refused : (name bytes : List ℕ) → Result (List TileLayer) TileFault → RunOutcome
listed_or_refused name bytes (Ok layers) = said (tile_listing bytes layers) Fine
listed_or_refused name bytes (Err fault) = no_tile name 0 fault

abbrev pub tile_outcome : (name bytes : List ℕ) → RunOutcome
tile_outcome name bytes = listed_or_refused name bytes (tile_of bytes)

abbrev pub tile_run : (name : List ℕ) → Run
tile_run name =
    reads (too_long (tile_text name) (tile_number 0)) name tile_limit (λ bytes. ends (tile_outcome name bytes))
