use Rattle.std.proofs.Common.{◌≡◌, drop}
use Rattle.form_pool.specs.PoolSlots.{pool_slots}
use Rattle.style_layout.specs.CodeView.{scene_seen}
use Rattle.kept_layers.proofs.ListLaws.{CountsFirst, lines_of}
use Rattle.kept_layers.specs.KeptLayers.{prepared_layers}
use Rattle.kept_layers.specs.View.{AreNumbered, globals_in, kept_seen, tiles_in, trees_in}
use Rattle.text_pieces.proofs.PieceLaws.{IsAdding}
use Rattle.kept_layers.proofs.kept_layers.KeptLayers.list_bare.Given as goal

abbrev pub invariant-loop-place : goal.invariant-loop-place
invariant-loop-place g l =
    let scene = scene_seen g.V.TextTests.tests l.scene in
    let lines = lines_of scene (tiles_in l.style) in
    let layers = prepared_layers (globals_in l.style) (trees_in l.style) in
    record {
      numbered : AreNumbered l.self;
      numbers : l.self.numbers ≡ l.fn.self.numbers;
      buckets : l.self.cells.buckets ≡ l.fn.self.cells.buckets;
      counts : CountsFirst pool_slots scene (tiles_in l.style) (globals_in l.style) l.fn.self.numbers.items (trees_in l.style)
          (kept_seen l.fn.self) l.place l.self.cells.buckets l.evaluated l.fn.steps l.steps;
      text : IsAdding g.O.Sink.held g.O.Sink.faults l.fn.pieces l.pieces (lines (drop l.place layers)) (lines layers);
    }
