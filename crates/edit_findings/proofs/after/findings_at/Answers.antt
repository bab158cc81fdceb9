use Rattle.std.proofs.Common.{refl, ap, ◌∙◌}
use Rattle.std.proofs.lemmas.Result.{IfOk-weaker}
use Rattle.decimal_json.specs.View.{tree_of}
use Rattle.edit_script.specs.View.{command_seen}
use Rattle.style_edits.specs.Layers.{layer_list}
use Rattle.style_edits.proofs.EditLaws.{layer_within, before_within}
use Rattle.style_edits.specs.declared.places.EditPlaces.{EditPlaces}
use Rattle.edit_findings.proofs.AfterLaws.{after_edit}
use Rattle.edit_findings.proofs.after.findings_at.Goals as goal

pub found_by_edit-requires-clause-layer : goal.found_by_edit-requires-clause-layer
found_by_edit-requires-clause-layer c =
    let document = tree_of c.args.document.now in
    layer_within document (layer_list document) (command_seen c.args.command.now) c.args.places c.requires.places refl

pub found_by_edit-requires-clause-before : goal.found_by_edit-requires-clause-before
found_by_edit-requires-clause-before c =
    let document = tree_of c.args.document.now in
    before_within document (layer_list document) (command_seen c.args.command.now) c.args.places c.requires.places refl

pub found_by_edit-requires-clause-same : goal.found_by_edit-requires-clause-same
found_by_edit-requires-clause-same c = ap (λ (places : EditPlaces). places.same) c.requires.places

pub returns-clause-found : goal.returns-clause-found
returns-clause-found c =
    IfOk-weaker c.found_by_edit.result _ _ (λ found is. is ∙ after_edit (tree_of c.args.document.now) (command_seen c.args.command.now) c.args.places
    c.documents_have_distinct_members.ensures c.requires.keys c.requires.sound c.requires.possible c.requires.places) c.found_by_edit.ensures.found
