use Rattle.std.proofs.Common.{◌∙◌, ap, sym, get_or}
use Rattle.decimal_json.specs.Tree.{null}
use Rattle.decimal_json.specs.View.{tree_of}
use Rattle.style_edits.proofs.DocumentLaws.{layers_listed}
use Rattle.style_parts.specs.Parts.{is_id_of}
use Rattle.edit_session.proofs.MarkLaws.{own_place}
use Rattle.edit_session.proofs.layer_marks.own_place.Goals as goal

pub returns-then-has_id : goal.returns-then-has_id
returns-then-has_id c =
    let document = tree_of c.args.document.now in
    let id = c.args.id.now in
    let is = layers_listed document c.layers_of.result.now c.layers_of.ensures in
    own_place id document c.documents_have_distinct_members.ensures c.requires c.in_ok-place.place
    (ap (λ ts. is_id_of id (get_or ts c.in_ok-place.place null)) (sym is) ∙ c.has_id.ensures c.if-has_id.true)
