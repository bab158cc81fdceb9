use Rattle.std.proofs.Common.{◌≡◌, ◌∙◌, ℕ, List, [], length, get_or, set, refl, ap, sym, arith, Bor, Bool, true, Some, None, is_some}
use Rattle.std.proofs.lemmas.Bool.{true≢false}
use Rattle.std.proofs.lemmas.List.{length-map}
use Rattle.std.specs.Prelude.{codes, option_map}
use Rattle.decimal_json.specs.Accessors.{text_at}
use Rattle.decimal_json.specs.Tree.{null}
use Rattle.decimal_json.specs.View.{items_view, tree_of}
use Rattle.decimal_json.specs.declared.Text.{Text}
use Rattle.edit_script.specs.Edit as edits
use Rattle.edit_script.specs.Edit.{Edit}
use Rattle.pending_ranges.specs.Pending.{ZoomRange}
use Rattle.style_edits.proofs.DocumentLaws.{layers_listed}
use Rattle.style_edits.specs.Edited.{edited}
use Rattle.style_edits.specs.Layers.{layer_list}
use Rattle.style_edits.specs.Places.{layer_place}
use Rattle.edit_session.specs.Applied.{Reply}
use Rattle.edit_session.specs.PlainView.{plain_state}
use Rattle.edit_session.specs.Ranges.{ranged_document}
use Rattle.edit_session.specs.SessionState.{SessionState}
use Rattle.edit_session.specs.View.{tiles_of}
use Rattle.edit_session.proofs.AppliedLaws.{layers_accepted}
use Rattle.edit_session.proofs.LayerLists.{item_at}
use Rattle.edit_session.proofs.MarkLaws.{own_place}
use Rattle.edit_session.proofs.RangedAnswers.{id_is, known_of, settle_found, settle_places, settle_possible, settle_whole}
use Rattle.edit_session.proofs.RangedDocuments.{range_done, range_length}
use Rattle.edit_session.proofs.RangedIds.{layer_has_id}
use Rattle.edit_session.proofs.session.Session.settle_at.Goals as goal

pub bounds-layers_of-place : goal.bounds-layers_of-place
bounds-layers_of-place c =
    let d = tree_of c.args.self.now.document in
    let js = c.layers_of.result.now in
    let same = length-map js tree_of in
    omega (arith, c.requires.within, same, ap length (layers_listed d js c.layers_of.ensures))

pub offset_bounds-layers_of-place : goal.offset_bounds-layers_of-place
offset_bounds-layers_of-place c = let within = bounds-layers_of-place c in omega (arith, within, c.layers_of.type_inv.0, c.layers_of.type_inv.1)

pub unreachable-requires : goal.unreachable-requires
unreachable-requires c =
    let s = c.args.self.now in
    let d = tree_of s.document in
    let js = c.layers_of.result.now in
    let i : ℕ = c.args.place in
    let known = known_of s (λ x. true) c.requires.ready c.note_types.ensures.distinct in
    let listed : items_view js ≡ layer_list d = layers_listed d js c.layers_of.ensures in
    let layer : tree_of c.index-layers_of-place.result ≡ get_or (layer_list d) i null =
    item_at js i c.index-layers_of-place.result (omega (arith, c.requires.within, ap length listed)) c.index-layers_of-place.is ∙ ap (λ ts. get_or ts i null) listed in
    let none : text_at (codes "id") (get_or (layer_list d) i null) ≡ None =
    ap (text_at (codes "id")) (sym layer) ∙ (sym c.text_id.ensures ∙ ap (option_map (λ (x : Bor Text). x.now)) c.in_default.is) in
    absurd (true≢false (sym (layer_has_id d known.distinct known.none i c.requires.within) ∙ ap is_some none))

pub edit_sound-requires-clause-possible : goal.edit_sound-requires-clause-possible
edit_sound-requires-clause-possible c =
    let s = c.args.self.now in
    let d = tree_of s.document in
    let js = c.layers_of.result.now in
    let i : ℕ = c.args.place in
    let known = known_of s (λ x. true) c.requires.ready c.note_types.ensures.distinct in
    let listed : items_view js ≡ layer_list d = layers_listed d js c.layers_of.ensures in
    let layer : tree_of c.index-layers_of-place.result ≡ get_or (layer_list d) i null =
    item_at js i c.index-layers_of-place.result (omega (arith, c.requires.within, ap length listed)) c.index-layers_of-place.is ∙ ap (λ ts. get_or ts i null) listed in
    let id : List ℕ = c.in_ok-share.field-0 in
    let r : ZoomRange = (c.args.min, c.args.max) in
    let named : text_at (codes "id") (get_or (layer_list d) i null) ≡ Some id =
    ap (text_at (codes "id")) (sym layer) ∙ (sym c.text_id.ensures ∙ (ap (option_map (λ (x : Bor Text). x.now)) c.in-Some.is ∙ ap Some (sym c.in_ok-share.ensures.same))) in
    let placed : layer_place (layer_list d) id ≡ Some i = sym (own_place id d known.distinct known.none i (id_is id (get_or (layer_list d) i null) named)) in
    settle_possible (tiles_of s) (λ x. true) true (plain_state s (λ x. true)) known [] id r i placed c.requires.zooms

pub edit_sound-requires-clause-places : goal.edit_sound-requires-clause-places
edit_sound-requires-clause-places c =
    let s = c.args.self.now in
    let d = tree_of s.document in
    let js = c.layers_of.result.now in
    let i : ℕ = c.args.place in
    let known = known_of s (λ x. true) c.requires.ready c.note_types.ensures.distinct in
    let listed : items_view js ≡ layer_list d = layers_listed d js c.layers_of.ensures in
    let layer : tree_of c.index-layers_of-place.result ≡ get_or (layer_list d) i null =
    item_at js i c.index-layers_of-place.result (omega (arith, c.requires.within, ap length listed)) c.index-layers_of-place.is ∙ ap (λ ts. get_or ts i null) listed in
    let id : List ℕ = c.in_ok-share.field-0 in
    let r : ZoomRange = (c.args.min, c.args.max) in
    let named : text_at (codes "id") (get_or (layer_list d) i null) ≡ Some id =
    ap (text_at (codes "id")) (sym layer) ∙ (sym c.text_id.ensures ∙ (ap (option_map (λ (x : Bor Text). x.now)) c.in-Some.is ∙ ap Some (sym c.in_ok-share.ensures.same))) in
    let placed : layer_place (layer_list d) id ≡ Some i = sym (own_place id d known.distinct known.none i (id_is id (get_or (layer_list d) i null) named)) in
    settle_places (tiles_of s) (λ x. true) true (plain_state s (λ x. true)) known [] id r i placed c.requires.zooms

pub edit_sound-requires-clause-sound : goal.edit_sound-requires-clause-sound
edit_sound-requires-clause-sound c =
    let s = c.args.self.now in
    let d = tree_of s.document in
    let js = c.layers_of.result.now in
    let i : ℕ = c.args.place in
    let known = known_of s (λ x. true) c.requires.ready c.note_types.ensures.distinct in
    let listed : items_view js ≡ layer_list d = layers_listed d js c.layers_of.ensures in
    let layer : tree_of c.index-layers_of-place.result ≡ get_or (layer_list d) i null =
    item_at js i c.index-layers_of-place.result (omega (arith, c.requires.within, ap length listed)) c.index-layers_of-place.is ∙ ap (λ ts. get_or ts i null) listed in
    let id : List ℕ = c.in_ok-share.field-0 in
    let r : ZoomRange = (c.args.min, c.args.max) in
    let named : text_at (codes "id") (get_or (layer_list d) i null) ≡ Some id =
    ap (text_at (codes "id")) (sym layer) ∙ (sym c.text_id.ensures ∙ (ap (option_map (λ (x : Bor Text). x.now)) c.in-Some.is ∙ ap Some (sym c.in_ok-share.ensures.same))) in
    let placed : layer_place (layer_list d) id ≡ Some i = sym (own_place id d known.distinct known.none i (id_is id (get_or (layer_list d) i null) named)) in
    settle_found (tiles_of s) (λ x. true) true (plain_state s (λ x. true)) known [] id r i placed c.requires.zooms

pub returns-clause-settles : goal.returns-clause-settles
returns-clause-settles c = λ slots is.
    let s = c.args.self.now in
    let d = tree_of s.document in
    let js = c.layers_of.result.now in
    let i : ℕ = c.args.place in
    let known = known_of s (λ x. true) c.requires.ready c.note_types.ensures.distinct in
    let listed : items_view js ≡ layer_list d = layers_listed d js c.layers_of.ensures in
    let layer : tree_of c.index-layers_of-place.result ≡ get_or (layer_list d) i null =
    item_at js i c.index-layers_of-place.result (omega (arith, c.requires.within, ap length listed)) c.index-layers_of-place.is ∙ ap (λ ts. get_or ts i null) listed in
    let id : List ℕ = c.in_ok-share.field-0 in
    let r : ZoomRange = (c.args.min, c.args.max) in
    let named : text_at (codes "id") (get_or (layer_list d) i null) ≡ Some id =
    ap (text_at (codes "id")) (sym layer) ∙ (sym c.text_id.ensures ∙ (ap (option_map (λ (x : Bor Text). x.now)) c.in-Some.is ∙ ap Some (sym c.in_ok-share.ensures.same))) in
    let placed : layer_place (layer_list d) id ≡ Some i = sym (own_place id d known.distinct known.none i (id_is id (get_or (layer_list d) i null) named)) in
    let p = plain_state s (λ x. true) in
    let e = edits.set_range id r.0 r.1 in
    let made = c.in_ok-_done.ensures.answer (λ x. true) (λ x. true) true in
    let accepted = layers_accepted (tiles_of s) (λ x. true) true p e refl
    (settle_possible (tiles_of s) (λ x. true) true p known [] id r i placed c.requires.zooms) (edited d e) refl
    (settle_whole (tiles_of s) (λ x. true) true p known [] id r i placed c.requires.zooms) in
    let document : tree_of c.edit_sound.new.self.document ≡ edited d e = ap (λ (a : SessionState × Reply). a.0.document) (made ∙ sym accepted) in
    ap (ranged_document (set slots i None)) document ∙ range_done slots d known.there id r i placed c.requires.within is

pub returns-clause-settled : goal.returns-clause-settled
returns-clause-settled c =
    let s = c.args.self.now in
    let d = tree_of s.document in
    let js = c.layers_of.result.now in
    let i : ℕ = c.args.place in
    let known = known_of s (λ x. true) c.requires.ready c.note_types.ensures.distinct in
    let listed : items_view js ≡ layer_list d = layers_listed d js c.layers_of.ensures in
    let layer : tree_of c.index-layers_of-place.result ≡ get_or (layer_list d) i null =
    item_at js i c.index-layers_of-place.result (omega (arith, c.requires.within, ap length listed)) c.index-layers_of-place.is ∙ ap (λ ts. get_or ts i null) listed in
    let id : List ℕ = c.in_ok-share.field-0 in
    let r : ZoomRange = (c.args.min, c.args.max) in
    let named : text_at (codes "id") (get_or (layer_list d) i null) ≡ Some id =
    ap (text_at (codes "id")) (sym layer) ∙ (sym c.text_id.ensures ∙ (ap (option_map (λ (x : Bor Text). x.now)) c.in-Some.is ∙ ap Some (sym c.in_ok-share.ensures.same))) in
    let placed : layer_place (layer_list d) id ≡ Some i = sym (own_place id d known.distinct known.none i (id_is id (get_or (layer_list d) i null) named)) in
    let e = edits.set_range id r.0 r.1 in
    let p : (List ℕ → Bool) → SessionState = λ h. plain_state s h in
    let known_by = λ (h : List ℕ → Bool). known_of s h c.requires.ready c.note_types.ensures.distinct in
    let state = λ (h : List ℕ → Bool). ap (λ (a : SessionState × Reply). a.0) (c.in_ok-_done.ensures.answer h (λ x. true) true
    ∙ sym (layers_accepted (tiles_of s) (λ x. true) true (p h) e refl
    (settle_possible (tiles_of s) (λ x. true) true (p h) (known_by h) [] id r i placed c.requires.zooms) (edited d e) refl
    (settle_whole (tiles_of s) (λ x. true) true (p h) (known_by h) [] id r i placed c.requires.zooms))) in
    let document : tree_of c.edit_sound.new.self.document ≡ edited d e = ap (λ (q : SessionState). q.document) (state (λ x. true)) in
    record {
      ready = c.in_ok-_done.ensures.ready;
      state = λ h. state h ∙ (λ k. record (p h) { document = sym document k });
      count = ap (λ t. length (layer_list t)) document ∙ range_length [] d known.there id r i placed c.requires.within;
      tiles = c.in_ok-_done.ensures.tiles;
      kept = c.in_ok-_done.ensures.kept;
    }
