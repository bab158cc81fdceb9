use Rattle.std.proofs.Common.{◌≡◌, ◌++◌, drop}
use Rattle.style_layout.specs.CodeView.{scene_seen}
use Rattle.form_pool.specs.PoolSlots.{pool_slots}
use Rattle.kept_layers.proofs.ListLaws.{CountsFirst, KeepsFirst, lines_of}
use Rattle.kept_layers.specs.KeptLayers.{prepared_layers}
use Rattle.kept_layers.specs.View.{AreNumbered, globals_in, kept_seen, tiles_in, trees_in}
use Rattle.kept_layers.proofs.kept_layers.KeptLayers.list_layers.Given as goal

abbrev pub invariant-loop-place : goal.invariant-loop-place
invariant-loop-place g l =
    let scene = scene_seen g.V.TextTests.tests l.scene in
    let ns = l.fn.self.numbers.items in
    let first = kept_seen l.fn.self in
    let lines = lines_of scene (tiles_in l.style) in
    let layers = prepared_layers (globals_in l.style) (trees_in l.style) in
    record {
      numbered : AreNumbered l.self;
      numbers : l.self.numbers ≡ l.fn.self.numbers;
      counts : CountsFirst pool_slots scene (tiles_in l.style) (globals_in l.style) ns (trees_in l.style)
          first l.place l.self.cells.buckets l.number l.fn.steps l.steps;
      keeps : KeepsFirst pool_slots scene (tiles_in l.style) (globals_in l.style) ns (trees_in l.style) first l.place l.self.cells.buckets;
      text : l.out.items ++ lines (drop l.place layers) ≡ l.fn.out.items ++ lines layers;
    }
