use Rattle.std.proofs.Common.{◌≡◌, List, map}
use Rattle.program_runs.specs.FailedReads.{NoneFailed}
use Rattle.program_runs.specs.Progress.{ComesTo}
use Rattle.program_runs.specs.Runs.{Run}
use Rattle.style_layout.specs.CodeView.{tile_seen}
use Rattle.style_layout.specs.Shown.{SourceTile}
use Rattle.style_program.specs.ShownRun.{tiles_part}
use Rattle.style_program.specs.TileRunView.{tiles_from}
use Rattle.style_program.specs.WordsView.{tile_word}
use Rattle.style_program.proofs.loading.read_tiles.Given as goal

abbrev pub invariant-loop-i : goal.invariant-loop-i
invariant-loop-i g l = record {
  told : g.F.Files.told l.files ≡ g.F.Files.told l.fn.files;
  failed : NoneFailed (g.F.Files.faults l.fn.files) (g.F.Files.faults l.files) (g.F.Files.failed l.fn.files) (g.F.Files.failed l.files);
  leads : (k : List SourceTile → Run) → ComesTo (g.F.Files.told l.fn.files) (tiles_part (map tile_word l.words) k)
      (tiles_from l.i l.words (map tile_seen l.tiles.items) l.left k) (g.F.Files.asked l.fn.files) (g.F.Files.asked l.files);
}
