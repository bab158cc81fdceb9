use Rattle.std.proofs.Common.{◌∙◌, sym, ap}
use Rattle.std.specs.Prelude.{Some}
use Rattle.std.proofs.lemmas.Option.{slice_get-get_or}
use Rattle.property_tables.specs.RowView.{row_seen}
use Rattle.property_tables.specs.Rows.{rows_of}
use Rattle.cell_sources.proofs.sources.row_at.Goals as goal

pub returns : goal.returns
returns c =
    let row = row_seen c.row_numbered.result in
    ap Some (c.row_numbered.ensures.row row) ∙ sym (slice_get-get_or (rows_of c.args.layer_type) c.args.row row c.requires)
