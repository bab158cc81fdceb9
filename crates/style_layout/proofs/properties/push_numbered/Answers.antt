use Rattle.property_tables.specs.RowView.{row_seen}
use Rattle.style_layout.proofs.TableRows.{table_row_at}
use Rattle.style_layout.proofs.properties.push_numbered.Goals as goal

pub push_if_set-requires : goal.push_if_set-requires
push_if_set-requires c =
    table_row_at c.tables_keep_their_rules.ensures c.args.layer_type c.args.number (row_seen c.in-Some.row) c.requires c.in-Some.ensures.row
