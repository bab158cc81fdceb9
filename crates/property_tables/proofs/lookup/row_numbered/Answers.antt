use Rattle.std.proofs.Common.{◌∙◌, ◌<◌, sym, ap, length, arith}
use Rattle.property_tables.proofs.FoundRows.{row_found, rows_counted}
use Rattle.property_tables.proofs.lookup.row_numbered.Goals as goal

pub bounds-entries-from : goal.bounds-entries-from
bounds-entries-from c =
    omega (arith, rows_counted c.table_of.result.0.now, ap length c.table_of.ensures.rows, c.requires, c.from.ensures)

pub returns-clause-row : goal.returns-clause-row
returns-clause-row c other =
    let es = c.table_of.result.0.now in
    let within : c.from.result < length es =
    omega (arith, rows_counted es, ap length c.table_of.ensures.rows, c.requires, c.from.ensures) in
    c.row_at.ensures ∙ sym (row_found es _ c.from.result c.args.number _ other within c.from.ensures c.table_of.ensures.rows)
