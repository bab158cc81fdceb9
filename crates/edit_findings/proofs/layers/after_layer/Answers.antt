use Rattle.std.proofs.Common.{◌∙◌, ◌+◌, ◌++◌, drop, ap, sym}
use Rattle.std.proofs.lemmas.List.{append-nil}
use Rattle.decimal_json.specs.View.{tree_of}
use Rattle.style_edits.specs.Layers.{layer_list}
use Rattle.edit_findings.specs.FoundAfter.{id_of, later_found, own_found}
use Rattle.edit_findings.proofs.KeyedLaws.{items_drop}
use Rattle.edit_findings.proofs.NewIdLaws.{none_later}
use Rattle.edit_findings.proofs.layers.after_layer.Goals as goal

pub returns-in_ok-push_later-in-Some : goal.returns-in_ok-push_later-in-Some
returns-in_ok-push_later-in-Some c =
    let id = id_of (tree_of c.args.layer.now) in
    let place = c.args.place in
    c.in_ok-push_later-in-Some.ensures
    ∙ ((λ i. c.in_ok-found.ensures i ++ later_found id (place + 1) (items_drop c.layer_list.result.now place i))
    ∙ ap (λ ts. own_found (tree_of c.args.document.now) place (tree_of c.args.layer.now) ++ later_found id (place + 1) (drop place ts)) c.layer_list.ensures)

pub returns-in-None : goal.returns-in-None
returns-in-None c =
    let document = tree_of c.args.document.now in
    let own = own_found document c.args.place (tree_of c.args.layer.now) in
    let none = none_later (layer_list document) (id_of (tree_of c.args.layer.now)) c.args.place (c.args.place + 1) (sym c.in-None.is ∙ c.requires.same) in
    c.in_ok-found.ensures ∙ (sym (append-nil own) ∙ ap (λ later. own ++ later) (sym none))
