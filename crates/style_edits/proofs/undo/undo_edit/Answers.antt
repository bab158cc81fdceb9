use Rattle.std.proofs.Common.{subst}
use Rattle.style_edits.specs.Undone.{undone_layers, IsWithin}
use Rattle.style_edits.proofs.DocumentLaws.{on_ok, on_err, taken_list, put_changed, put_same}
use Rattle.style_edits.proofs.undo.undo_edit.Goals as goal

pub undo_layers-undone-requires : goal.undo_layers-undone-requires
undo_layers-undone-requires c =
    subst (IsWithin c.args.undo) (taken_list _ _ c.in-Some.layers c.in-Some.ensures) c.requires

pub returns-clause-ok : goal.returns-clause-ok
returns-clause-ok c =
    on_ok c.undo_layers-undone.result _ _
    (λ e. put_changed _ _ _ c.in-Some.layers _ c.in-Some.ensures c.put_layers.ensures (undone_layers c.args.undo) e)
    c.undo_layers-undone.ensures.ok

pub returns-clause-err : goal.returns-clause-err
returns-clause-err c =
    on_err c.undo_layers-undone.result _ _
    (λ e. put_same _ _ _ c.in-Some.layers _ c.in-Some.ensures c.put_layers.ensures e)
    c.undo_layers-undone.ensures.err
