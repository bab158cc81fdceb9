use Rattle.std.proofs.Common.{◌<◌, ℕ, length, ap, ◌∙◌, subst, arith}
use Rattle.std.specs.Prelude.{Option, IfSome}
use Rattle.std.proofs.lemmas.List.{length-map}
use Rattle.decimal_json.specs.View.{moved_items, tree_of}
use Rattle.style_edits.proofs.ListLaws.{moved_back}
use Rattle.style_edits.proofs.layers.move_layer.Goals as goal

pub returns-clause-undo : goal.returns-clause-undo
returns-clause-undo c =
    let ts = c.args.layers.now in
    let to = c.place_moved_to-to.result in
    let from : c.in-Some.from < length ts = subst (λ (o : Option ℕ). IfSome o (λ i. i < length ts)) c.in-Some.is c.requires.place in
    let there : to < length ts = omega (arith, c.place_moved_to-to.ensures.within, ap length c.as_slice.ensures, length-map c.as_slice.result.now tree_of) in
    ap (moved_items to c.in-Some.from) c.move_item.ensures ∙ moved_back ts c.in-Some.from to from there
