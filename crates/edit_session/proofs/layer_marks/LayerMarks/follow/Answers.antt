use Rattle.std.proofs.Common.{◌∙◌, ap, get_or, map, set, subst}
use Rattle.std.specs.Prelude.{insert, remove}
use Rattle.std.proofs.lemmas.List.{with_items_is}
use Rattle.decimal_json.specs.View.{items_view, tree_of}
use Rattle.style_edits.specs.Undone.{IsWithin, undone_layers}
use Rattle.style_edits.specs.declared.undo.Undo.{Undo}
use Rattle.style_rules.specs.Levels.{HasDistinctMembers}
use Rattle.edit_findings.specs.FoundAfter.{AreKeyed}
use Rattle.edit_session.specs.LayerMarks.{layer_mark}
use Rattle.edit_session.proofs.LayerLists.{added_back, changed_back, each_uninserted, each_unmoved, each_unremoved, each_unset, item_at, moved_forth, removed_back}
use Rattle.edit_session.proofs.layer_marks.LayerMarks.follow.Goals as goal

pub returns-in-Changed-clause-marks : goal.returns-in-Changed-clause-marks
returns-in-Changed-clause-marks c =
    let us = items_view c.args.layers.now in
    let place = c.in-Changed.place in
    let within = subst (λ (u : Undo). IsWithin u us) c.in-Changed.is c.requires.within in
    let before = c.requires.before.0 ∙ ap (λ (u : Undo). map layer_mark (undone_layers u us)) c.in-Changed.is in
    let keyed = subst (λ (u : Undo). AreKeyed (undone_layers u us)) c.in-Changed.is c.requires.before.1 in
    let is = item_at c.args.layers.now place _ within c.index-layers-place.is in
    let mark = c.layer_mark-mark.ensures ∙ ap layer_mark is in (
      (λ i. set (before i) place (mark i)) ∙ changed_back layer_mark us place (tree_of c.in-Changed.field-1),
      each_unset HasDistinctMembers us place (tree_of c.in-Changed.field-1) within keyed (subst HasDistinctMembers is c.documents_have_distinct_members.ensures),
    )

pub returns-in_ok-make_room-in-Added-clause-marks : goal.returns-in_ok-make_room-in-Added-clause-marks
returns-in_ok-make_room-in-Added-clause-marks c =
    let us = items_view c.args.layers.now in
    let place = c.in-Added.place in
    let within = subst (λ (u : Undo). IsWithin u us) c.in-Added.is c.requires.within in
    let before = c.requires.before.0 ∙ ap (λ (u : Undo). map layer_mark (undone_layers u us)) c.in-Added.is in
    let keyed = subst (λ (u : Undo). AreKeyed (undone_layers u us)) c.in-Added.is c.requires.before.1 in
    let is = item_at c.args.layers.now place _ within c.index-layers-place-in-Added.is in
    let mark = c.layer_mark-mark-in-Added.ensures ∙ ap layer_mark is in (
      c.in-Ok.ensures.items ∙ ((λ i. insert (before i) place (mark i)) ∙ added_back layer_mark us place within),
      each_unremoved HasDistinctMembers us place within keyed (subst HasDistinctMembers is c.documents_have_distinct_members-in-Added.ensures),
    )

pub returns-in-Removed-clause-marks : goal.returns-in-Removed-clause-marks
returns-in-Removed-clause-marks c =
    let us = items_view c.args.layers.now in
    let place = c.in-Removed.place in
    let within = subst (λ (u : Undo). IsWithin u us) c.in-Removed.is c.requires.within in
    let before = c.requires.before.0 ∙ ap (λ (u : Undo). map layer_mark (undone_layers u us)) c.in-Removed.is in
    let keyed = subst (λ (u : Undo). AreKeyed (undone_layers u us)) c.in-Removed.is c.requires.before.1 in
    let was = tree_of c.in-Removed.field-1 in (
      c.remove.ensures.items ∙ ((λ i. remove (before i) place) ∙ removed_back layer_mark us place was within),
      (each_uninserted HasDistinctMembers us place was keyed).1,
    )

pub returns-in-Moved-clause-marks : goal.returns-in-Moved-clause-marks
returns-in-Moved-clause-marks c =
    let us = items_view c.args.layers.now in
    let from = c.in-Moved.from in
    let to = c.in-Moved.to in
    let within = subst (λ (u : Undo). IsWithin u us) c.in-Moved.is c.requires.within in
    let before = c.requires.before.0 ∙ ap (λ (u : Undo). map layer_mark (undone_layers u us)) c.in-Moved.is in
    let keyed = subst (λ (u : Undo). AreKeyed (undone_layers u us)) c.in-Moved.is c.requires.before.1 in (
      with_items_is c.args.self.now.marks c.move_element.new.items (c.move_element.ensures.len ∙ c.as_mut_slice.ensures.len)
          ∙ (c.move_element.ensures.moved 0
          ∙ (ap (λ marks. insert (remove marks from) to (get_or marks from 0)) (c.as_mut_slice.ensures.value ∙ before)
          ∙ moved_forth us from to within.0 within.1 layer_mark 0)),
      each_unmoved HasDistinctMembers us from to within.1 keyed,
    )
