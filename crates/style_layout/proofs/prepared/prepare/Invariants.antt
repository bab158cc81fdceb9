use Rattle.std.proofs.Common.{◌≡◌, ◌++◌, drop, map}
use Rattle.decimal_json.specs.View.{trees}
use Rattle.style_layout.specs.CodeView.{layer_seen}
use Rattle.style_layout.specs.Layers.{layers_in}
use Rattle.style_layout.specs.Outlines.{layer_outline}
use Rattle.style_layout.proofs.prepared.prepare.Given as goal

abbrev pub invariant-loop-layer : goal.invariant-loop-layer
invariant-loop-layer l =
    map layer_seen l.layers.items ++ map layer_outline (layers_in l.globals (trees (drop l.layer-index l.found)))
    ≡ map layer_outline (layers_in l.globals (trees l.found))
