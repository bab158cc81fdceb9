use Rattle.std.proofs.Common.{◌≡◌, ℕ, List, drop, map}
use Rattle.decimal_json.specs.Tree.{Tree}
use Rattle.prop_values.specs.Data.{Data}
use Rattle.style_layout.specs.CodeView.{filled_property}
use Rattle.style_layout.specs.Layers.{property_named}
use Rattle.style_layout.proofs.document_layer.property_named.Given as goal

abbrev pub invariant-loop-place : goal.invariant-loop-place
invariant-loop-place l = (globals : List (List ℕ × Data)) (layer : Tree) →
    property_named l.name (map (filled_property globals layer) (drop l.place l.properties))
    ≡ property_named l.name (map (filled_property globals layer) l.properties)
