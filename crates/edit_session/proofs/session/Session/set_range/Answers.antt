use Rattle.std.proofs.Common.{◌≡◌, ◌∙◌, ℕ, List, length, get_or, ap, sym, subst, arith, Some, None}
use Rattle.std.proofs.lemmas.List.{length-map}
use Rattle.decimal_json.specs.Tree.{null}
use Rattle.decimal_json.specs.View.{items_view, tree_of}
use Rattle.edit_script.specs.Edit as edits
use Rattle.edit_script.specs.Edit.{Edit}
use Rattle.edit_script.specs.View.{command_seen}
use Rattle.pending_ranges.specs.Pending.{ZoomRange}
use Rattle.style_edits.proofs.DocumentLaws.{layers_listed}
use Rattle.style_edits.specs.Faults.{edit_fault}
use Rattle.style_edits.specs.Layers.{layer_list}
use Rattle.style_edits.specs.Places.{layer_place, places_of}
use Rattle.style_rules.specs.Levels.{HasDistinctMembers}
use Rattle.edit_session.specs.Applied.{applied, done, refused}
use Rattle.edit_session.specs.PlainView.{plain_state}
use Rattle.edit_session.specs.View.{session_state, tiles_of}
use Rattle.edit_session.proofs.RangedAnswers.{known_of, layer_there, placed_there, range_refused, range_set, typed_there, zooms_in_range}
use Rattle.edit_session.proofs.RangedKept.{with_ranges}
use Rattle.edit_session.proofs.LayerLists.{item_at}
use Rattle.edit_session.proofs.session.Session.set_range.Goals as goal

pub returns-in-Some-clause-answer : goal.returns-in-Some-clause-answer
returns-in-Some-clause-answer c = λ has_image scripts can_change.
    let s = c.args.self.now in
    let d = tree_of s.document in
    let id : List ℕ = c.in-SetRange.field-0 in
    let r : ZoomRange = (c.in-SetRange.min, c.in-SetRange.max) in
    let e : command_seen c.args.command.now ≡ edits.set_range id r.0 r.1 = ap command_seen c.in-SetRange.is in
    let fault : edit_fault d (edits.set_range id r.0 r.1) ≡ Some c.in-Some.fault = sym (ap (edit_fault d) e) ∙ (sym c.edit_fault.ensures ∙ c.in-Some.is) in
    (λ i. (session_state s has_image, refused (c.refusal_of.ensures i)))
    ∙ (range_refused (tiles_of s) scripts can_change (plain_state s has_image) (known_of s has_image c.requires.ready c.note_types.ensures.distinct) s.ranges id r c.in-Some.fault fault
    ∙ ap (applied (tiles_of s) scripts can_change (session_state s has_image)) (sym e))

pub unreachable-requires-in_default-layer : goal.unreachable-requires-in_default-layer
unreachable-requires-in_default-layer c =
    let d = tree_of c.args.self.now.document in
    let id : List ℕ = c.in-SetRange.field-0 in
    let r : ZoomRange = (c.in-SetRange.min, c.in-SetRange.max) in
    let e : command_seen c.args.command.now ≡ edits.set_range id r.0 r.1 = ap command_seen c.in-SetRange.is in
    let possible : edit_fault d (edits.set_range id r.0 r.1) ≡ None = sym (ap (edit_fault d) e) ∙ (sym c.edit_fault.ensures ∙ c.in_default-edit_fault.is) in
    layer_there d id r.0 r.1 possible
    (sym (ap (λ p. p.layer) (c.places-places.ensures ∙ ap (places_of d) e)) ∙ c.in_default-layer.is)

pub bounds-layers_of-place : goal.bounds-layers_of-place
bounds-layers_of-place c =
    let d = tree_of c.args.self.now.document in
    let js = c.layers_of.result.now in
    let id : List ℕ = c.in-SetRange.field-0 in
    let r : ZoomRange = (c.in-SetRange.min, c.in-SetRange.max) in
    let e : command_seen c.args.command.now ≡ edits.set_range id r.0 r.1 = ap command_seen c.in-SetRange.is in
    let placed : layer_place (layer_list d) id ≡ Some c.in-Some-layer.place =
    sym (ap (λ p. p.layer) (c.places-places.ensures ∙ ap (places_of d) e)) ∙ c.in-Some-layer.is in
    let within = placed_there (layer_list d) id c.in-Some-layer.place placed in
    let same = length-map js tree_of in
    omega (arith, within, same, ap length (layers_listed d js c.layers_of.ensures))

pub offset_bounds-layers_of-place : goal.offset_bounds-layers_of-place
offset_bounds-layers_of-place c = let within = bounds-layers_of-place c in omega (arith, within, c.layers_of.type_inv.0, c.layers_of.type_inv.1)

pub returns-clause-answer : goal.returns-clause-answer
returns-clause-answer c = λ has_image scripts can_change.
    let s = c.args.self.now in
    let d = tree_of s.document in
    let js = c.layers_of.result.now in
    let id : List ℕ = c.in-SetRange.field-0 in
    let r : ZoomRange = (c.in-SetRange.min, c.in-SetRange.max) in
    let i : ℕ = c.in-Some-layer.place in
    let e : command_seen c.args.command.now ≡ edits.set_range id r.0 r.1 = ap command_seen c.in-SetRange.is in
    let possible : edit_fault d (edits.set_range id r.0 r.1) ≡ None = sym (ap (edit_fault d) e) ∙ (sym c.edit_fault.ensures ∙ c.in_default-edit_fault.is) in
    let placed : layer_place (layer_list d) id ≡ Some i = sym (ap (λ p. p.layer) (c.places-places.ensures ∙ ap (places_of d) e)) ∙ c.in-Some-layer.is in
    let within = placed_there (layer_list d) id i placed in
    let listed : items_view js ≡ layer_list d = layers_listed d js c.layers_of.ensures in
    let layer : tree_of c.index-layers_of-place.result ≡ get_or (layer_list d) i null =
    item_at js i c.index-layers_of-place.result (omega (arith, within, ap length listed)) c.index-layers_of-place.is ∙ ap (λ ts. get_or ts i null) listed in
    (λ k. (with_ranges (c.set.ensures k) (plain_state s has_image), done))
    ∙ (range_set (tiles_of s) scripts can_change (plain_state s has_image) (known_of s has_image c.requires.ready c.note_types.ensures.distinct) s.ranges id r
    c.requires.slots c.have_zooms.ensures possible i placed within
    (subst HasDistinctMembers layer c.documents_have_distinct_members.ensures) (typed_there (layer_list d) i within c.note_types.ensures.typed)
    (zooms_in_range d id r.0 r.1 possible)
    ∙ ap (applied (tiles_of s) scripts can_change (session_state s has_image)) (sym e))
