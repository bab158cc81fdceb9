use Rattle.std.proofs.Common.{[], ◌∷◌, ◌++◌, rules, append_assoc}
use Rattle.std.specs.Prelude.{codes}
use Rattle.decimal_json.specs.JsonText.{text_json}
use Rattle.property_tables.specs.LayerTypes.{type_name}
use Rattle.listing_text.specs.Listing.{line, show_mark, layer_line}
use Rattle.listing_text.proofs.Appending.{err_first, err_between, err_last}
use Rattle.listing_text.proofs.writing.write_layer_line.Goals as goal

pub returns-in_err-write_parts-clause-err : goal.returns-in_err-write_parts-clause-err
returns-in_err-write_parts-clause-err c =
    let id = c.args.id.now in let type = c.args.layer_type in let show = c.args.show in
    err_first _ _ _ _ (line (text_json id ∷ codes " " ∷ type_name type ∷ show_mark show ∷ [])) (layer_line id type show)
    c.in_err-write_parts.ensures.err (search rules)

pub returns-in_err-write_text-clause-err : goal.returns-in_err-write_text-clause-err
returns-in_err-write_text-clause-err c =
    let id = c.args.id.now in let type = c.args.layer_type in let show = c.args.show in
    err_between _ _ _ _ _ _ (line (codes " " ∷ type_name type ∷ show_mark show ∷ [])) (layer_line id type show)
    c.in_ok-write_parts.ensures.ok c.in_err-write_text.ensures.err (search (rules, append_assoc))

pub returns-clause-err : goal.returns-clause-err
returns-clause-err c =
    let id = c.args.id.now in let type = c.args.layer_type in let show = c.args.show in
    err_last _ _ _ _ (codes "layer " ++ text_json id) _ (layer_line id type show)
    (search (rules, append_assoc)) c.write_parts-2.ensures.err (search (rules, append_assoc))
