use Rattle.std.proofs.Common.{◌≡◌, ◌+◌, ◌≤◌, drop, map, length}
use Rattle.style_layout.specs.CodeView.{property_seen}
use Rattle.style_layout.specs.Layers.{feature_properties}
use Rattle.style_layout.proofs.cells.per_feature_count.Given as goal

abbrev pub invariant-loop-property : goal.invariant-loop-property
invariant-loop-property l =
    (l.count + length (feature_properties (map property_seen (drop l.property-index l.properties)))
    ≡ length (feature_properties (map property_seen l.properties)))
    × (l.count ≤ l.property-index)
