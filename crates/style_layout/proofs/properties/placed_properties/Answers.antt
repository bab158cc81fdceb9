use Rattle.std.proofs.Common.{arith, map}
use Rattle.decimal_json.specs.Tree.{object, fields_of}
use Rattle.property_tables.specs.Rows.{rows_of}
use Rattle.style_layout.specs.CodeView.{property_seen}
use Rattle.style_layout.specs.Layers.{set_property}
use Rattle.style_layout.specs.Outlines.{property_outline}
use Rattle.style_layout.proofs.RowLists.{row_more}
use Rattle.style_layout.proofs.properties.placed_properties.Goals as goal

pub loop-number-preserved : goal.loop-number-preserved
loop-number-preserved c =
    row_more property_outline (set_property c.args.globals.now (object (fields_of c.args.layer.now))) (rows_of c.args.layer_type) c.loop-number.number
    (omega (arith, c.row_count-number-end.ensures, c.loop-number-test.true)) (map property_seen c.loop-number.properties.items) _ _
    c.in_ok-push_numbered.ensures c.loop-number.invariant
