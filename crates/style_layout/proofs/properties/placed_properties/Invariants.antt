use Rattle.std.proofs.Common.{◌≡◌, ◌++◌, drop, map}
use Rattle.std.specs.Prelude.{flat_map}
use Rattle.decimal_json.specs.Tree.{object, fields_of}
use Rattle.property_tables.specs.Rows.{rows_of}
use Rattle.style_layout.specs.CodeView.{property_seen}
use Rattle.style_layout.specs.Layers.{set_property}
use Rattle.style_layout.specs.Outlines.{property_outline}
use Rattle.style_layout.proofs.properties.placed_properties.Given as goal

abbrev pub invariant-loop-number : goal.invariant-loop-number
invariant-loop-number l =
    let set = set_property l.globals (object (fields_of l.layer)) in
    map property_seen l.properties.items ++ map property_outline (flat_map set (drop l.number (rows_of l.layer_type)))
    ≡ map property_outline (flat_map set (rows_of l.layer_type))
