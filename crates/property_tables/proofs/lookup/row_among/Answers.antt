use Rattle.std.proofs.Common.{◌∙◌, sym, ap}
use Rattle.std.specs.Prelude.{Some}
use Rattle.property_tables.proofs.FoundRows.{found_named, none_named}
use Rattle.property_tables.proofs.lookup.row_among.Goals as goal

pub returns-in-Some : goal.returns-in-Some
returns-in-Some c =
    let found = found_named c.args.name.now c.args.entries.now c.in-Some.place _ (c.in-Some.ensures) in
    ap (λ r. Some (r.number, r)) c.row_at.ensures ∙ sym found

pub returns-in-None : goal.returns-in-None
returns-in-None c = sym (none_named c.args.name.now c.args.entries.now (c.in-None.ensures))
