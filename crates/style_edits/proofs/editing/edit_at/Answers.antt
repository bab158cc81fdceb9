use Rattle.std.proofs.Common.{◌∙◌}
use Rattle.decimal_json.specs.View.{tree_of}
use Rattle.edit_script.specs.View.{command_seen}
use Rattle.style_edits.specs.Edited.{edited_layers}
use Rattle.style_edits.proofs.DocumentLaws.{on_ok, on_err, if_ok, taken_list, put_changed, put_same, undo_put}
use Rattle.style_edits.proofs.EditLaws.{layer_within, before_within, edited_given}
use Rattle.style_edits.proofs.editing.edit_at.Goals as goal

pub edit_layers-undo-requires-clause-layer : goal.edit_layers-undo-requires-clause-layer
edit_layers-undo-requires-clause-layer c =
    let edit = command_seen c.args.command.now in
    layer_within (tree_of c.args.style.now) c.in-Some.layers edit c.args.places c.requires
    (taken_list _ _ c.in-Some.layers c.in-Some.ensures)

pub edit_layers-undo-requires-clause-before : goal.edit_layers-undo-requires-clause-before
edit_layers-undo-requires-clause-before c =
    let edit = command_seen c.args.command.now in
    before_within (tree_of c.args.style.now) c.in-Some.layers edit c.args.places c.requires
    (taken_list _ _ c.in-Some.layers c.in-Some.ensures)

pub returns-clause-edited : goal.returns-clause-edited
returns-clause-edited c =
    let edit = command_seen c.args.command.now in
    let ts = c.in-Some.layers in
    let made = edited_given (tree_of c.args.style.now) ts edit c.args.places c.requires (taken_list _ _ ts c.in-Some.ensures) in
    on_ok c.edit_layers-undo.result _ _
    (λ e. put_changed _ _ _ ts _ c.in-Some.ensures c.put_layers.ensures (edited_layers edit) (e ∙ made))
    c.edit_layers-undo.ensures.edited

pub returns-clause-undo : goal.returns-clause-undo
returns-clause-undo c =
    if_ok c.edit_layers-undo.result _ _ _
    (λ undo within back. undo_put _ _ _ c.in-Some.layers _ c.in-Some.ensures c.put_layers.ensures undo within back)
    c.edit_layers-undo.ensures.within c.edit_layers-undo.ensures.undo

pub returns-clause-err : goal.returns-clause-err
returns-clause-err c =
    on_err c.edit_layers-undo.result _ _
    (λ e. put_same _ _ _ c.in-Some.layers _ c.in-Some.ensures c.put_layers.ensures e)
    c.edit_layers-undo.ensures.err
