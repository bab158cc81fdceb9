use Rattle.decimal_json.specs.View.{tree_of}
use Rattle.property_tables.specs.RowView.{row_seen}
use Rattle.style_layout.specs.CodeView.{value_read}
use Rattle.style_layout.proofs.LegacyReads.{value_is_read}
use Rattle.style_layout.proofs.properties.read_property.Goals as goal

pub is_per_feature-is_per_feature-requires : goal.is_per_feature-is_per_feature-requires
is_per_feature-is_per_feature-requires c =
    value_is_read (row_seen c.args.row.now) c.args.globals.now (tree_of c.args.json.now) (value_read c.in_ok-value.value) c.requires c.in_ok-value.ensures
