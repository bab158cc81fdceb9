use Rattle.std.proofs.Common.{ℤ, ap, refl, sym, subst}
use Rattle.std.proofs.lemmas.Result.{on_ok_weaker}
use Rattle.std.specs.Prelude.{None}
use Rattle.edit_script.specs.Edit as edits
use Rattle.edit_script.specs.Edit.{Edit}
use Rattle.edit_script.specs.View.{command_seen}
use Rattle.kept_layers.specs.Changes.{Drops, TurnsZoom}
use Rattle.kept_layers.specs.KeptLayers.{is_stale_zoom}
use Rattle.kept_layers.specs.View.{HoldsLayers, globals_in, tiles_in, trees_in}
use Rattle.prop_values.specs.Data.{entries_of, pairs_of}
use Rattle.prop_values.specs.Changes.{merged}
use Rattle.feature_states.specs.Features.{left_of}
use Rattle.style_edits.specs.Layers.{layer_list}
use Rattle.edit_session.specs.Answering.{FollowsEdit, IsAccepted}
use Rattle.edit_session.specs.Applied.{changed_state, kept_left, tells_image}
use Rattle.edit_session.specs.View.{slots_of}
use Rattle.edit_session.proofs.FollowingLaws.{after_globals, after_images, after_state, after_zoom, left_drops, left_held, on_err_so}
use Rattle.edit_session.proofs.following.follow_command.Goals as goal

pub turn_zoom-requires : goal.turn_zoom-requires
turn_zoom-requires c = record { numbered = c.requires.accepted.2.right.numbered }

pub turn_state-requires-clause-numbered : goal.turn_state-requires-clause-numbered
turn_state-requires-clause-numbered c = c.requires.accepted.2.right.numbered

pub turn_state-requires-clause-holds : goal.turn_state-requires-clause-holds
turn_state-requires-clause-holds c =
    let style = c.args.style.now in
    let (scripts, p, a) = c.requires.accepted in
    let there = subst (λ (e : Edit). IsAccepted (tiles_in style) (globals_in style) (trees_in style) scripts p e c.args.before.now c.args.kept.now) (ap command_seen c.in-SetState.is) a in
    left_held style scripts p c.args.before.now c.args.kept.now c.args.kept.now _ refl refl there

pub turn_state-requires-in-RemoveState-clause-numbered : goal.turn_state-requires-in-RemoveState-clause-numbered
turn_state-requires-in-RemoveState-clause-numbered c = c.requires.accepted.2.right.numbered

pub turn_state-requires-in-RemoveState-clause-holds : goal.turn_state-requires-in-RemoveState-clause-holds
turn_state-requires-in-RemoveState-clause-holds c =
    let style = c.args.style.now in
    let (scripts, p, a) = c.requires.accepted in
    let there = subst (λ (e : Edit). IsAccepted (tiles_in style) (globals_in style) (trees_in style) scripts p e c.args.before.now c.args.kept.now) (ap command_seen c.in-RemoveState.is) a in
    left_held style scripts p c.args.before.now c.args.kept.now c.args.kept.now _ refl refl there

pub turn_images-requires : goal.turn_images-requires
turn_images-requires c = record { numbered = c.requires.accepted.2.right.numbered }

pub turn_images-requires-in-RemoveImage : goal.turn_images-requires-in-RemoveImage
turn_images-requires-in-RemoveImage c = record { numbered = c.requires.accepted.2.right.numbered }

pub turn_globals-requires-clause-numbered : goal.turn_globals-requires-clause-numbered
turn_globals-requires-clause-numbered c = c.requires.accepted.2.right.numbered

pub turn_globals-requires-clause-holds : goal.turn_globals-requires-clause-holds
turn_globals-requires-clause-holds c =
    let style = c.args.style.now in
    let (scripts, p, a) = c.requires.accepted in
    let there = subst (λ (e : Edit). IsAccepted (tiles_in style) (globals_in style) (trees_in style) scripts p e c.args.before.now c.args.kept.now) (ap command_seen c.in-SetGlobal.is) a in
    (p.globals, subst (λ us. HoldsLayers slots_of (tiles_in style) p.globals us c.args.kept.now) (sym there.layers) there.right.holds)

pub returns-in-SetZoom-clause-followed : goal.returns-in-SetZoom-clause-followed
returns-in-SetZoom-clause-followed c = λ scripts p a.
    let style = c.args.style.now in
    let is = ap command_seen c.in-SetZoom.is in
    let there = subst (λ (e : Edit). IsAccepted (tiles_in style) (globals_in style) (trees_in style) scripts p e c.args.before.now c.args.kept.now) is a in
    subst (λ (e : Edit). FollowsEdit (tiles_in style) scripts p e c.turn_zoom.new.self) (sym is)
    (after_zoom (tiles_in style) (globals_in style) (trees_in style) scripts p c.args.before.now c.args.kept.now c.turn_zoom.new.self _ there
    c.turn_zoom.ensures.numbered (subst (λ (z : ℤ). Drops slots_of (is_stale_zoom p.globals c.args.before.now.zoom z) (TurnsZoom c.args.before.now.zoom z)
    (tiles_in style) p.globals (layer_list p.document) c.args.kept.now c.turn_zoom.new.self) c.new.ensures
    (c.turn_zoom.ensures.drops (tiles_in style) p.globals (layer_list p.document) there.right.holds)))

pub returns-in-SetState-clause-followed : goal.returns-in-SetState-clause-followed
returns-in-SetState-clause-followed c = λ scripts p a.
    let style = c.args.style.now in
    let is = ap command_seen c.in-SetState.is in
    let there = subst (λ (e : Edit). IsAccepted (tiles_in style) (globals_in style) (trees_in style) scripts p e c.args.before.now c.args.kept.now) is a in
    let source = sym c.as_str.ensures in
    let layer = sym c.as_str-in-SetState.ensures in
    let id = c.in-SetState.id in
    let members = pairs_of c.in-SetState.field-3 in
    subst (λ (e : Edit). FollowsEdit (tiles_in style) scripts p e c.turn_state.new.self) (sym is)
    (after_state (tiles_in style) (globals_in style) (trees_in style) scripts p c.args.before.now c.args.kept.now c.turn_state.new.self _
    c.as_str.result.now c.as_str-in-SetState.result.now id (λ kept. merged kept (entries_of members)) there
    (λ k. record p { states = changed_state (source k) (layer k) id (λ kept. merged kept (entries_of members)) p.states })
    (λ k. kept_left (tiles_in style) p (edits.remove_state (source k) (layer k) id None))
    c.turn_state.ensures.numbered
    (left_drops style scripts p c.args.before.now c.args.kept.now c.turn_state.new.self _ refl refl there
    c.as_str.result.now c.as_str-in-SetState.result.now id c.turn_state.ensures.drops))

pub returns-in-RemoveState-clause-followed : goal.returns-in-RemoveState-clause-followed
returns-in-RemoveState-clause-followed c = λ scripts p a.
    let style = c.args.style.now in
    let is = ap command_seen c.in-RemoveState.is in
    let there = subst (λ (e : Edit). IsAccepted (tiles_in style) (globals_in style) (trees_in style) scripts p e c.args.before.now c.args.kept.now) is a in
    let source = sym c.as_str-in-RemoveState.ensures in
    let layer = sym c.as_str-in-RemoveState-2.ensures in
    let id = c.in-RemoveState.id in
    let key = c.in-RemoveState.field-3 in
    subst (λ (e : Edit). FollowsEdit (tiles_in style) scripts p e c.turn_state-in-RemoveState.new.self) (sym is)
    (after_state (tiles_in style) (globals_in style) (trees_in style) scripts p c.args.before.now c.args.kept.now c.turn_state-in-RemoveState.new.self _
    c.as_str-in-RemoveState.result.now c.as_str-in-RemoveState-2.result.now id (left_of key) there
    (λ k. record p { states = changed_state (source k) (layer k) id (left_of key) p.states })
    (λ k. kept_left (tiles_in style) p (edits.remove_state (source k) (layer k) id None))
    c.turn_state-in-RemoveState.ensures.numbered
    (left_drops style scripts p c.args.before.now c.args.kept.now c.turn_state-in-RemoveState.new.self _ refl refl there
    c.as_str-in-RemoveState.result.now c.as_str-in-RemoveState-2.result.now id c.turn_state-in-RemoveState.ensures.drops))

pub returns-in-AddImage-clause-followed : goal.returns-in-AddImage-clause-followed
returns-in-AddImage-clause-followed c = λ scripts p a.
    let style = c.args.style.now in
    let is = ap command_seen c.in-AddImage.is in
    let there = subst (λ (e : Edit). IsAccepted (tiles_in style) (globals_in style) (trees_in style) scripts p e c.args.before.now c.args.kept.now) is a in
    subst (λ (e : Edit). FollowsEdit (tiles_in style) scripts p e c.turn_images.new.self) (sym is)
    (after_images (tiles_in style) (globals_in style) (trees_in style) scripts p c.args.before.now c.args.kept.now c.turn_images.new.self _
    _ there refl refl c.turn_images.ensures.numbered
    (c.turn_images.ensures.drops (tiles_in style) p.globals (layer_list p.document) there.right.holds))

pub returns-in-RemoveImage-clause-followed : goal.returns-in-RemoveImage-clause-followed
returns-in-RemoveImage-clause-followed c = λ scripts p a.
    let style = c.args.style.now in
    let is = ap command_seen c.in-RemoveImage.is in
    let there = subst (λ (e : Edit). IsAccepted (tiles_in style) (globals_in style) (trees_in style) scripts p e c.args.before.now c.args.kept.now) is a in
    subst (λ (e : Edit). FollowsEdit (tiles_in style) scripts p e c.turn_images-in-RemoveImage.new.self) (sym is)
    (after_images (tiles_in style) (globals_in style) (trees_in style) scripts p c.args.before.now c.args.kept.now c.turn_images-in-RemoveImage.new.self _
    _ there refl refl c.turn_images-in-RemoveImage.ensures.numbered
    (c.turn_images-in-RemoveImage.ensures.drops (tiles_in style) p.globals (layer_list p.document) there.right.holds))

pub returns-in-SetGlobal-clause-followed : goal.returns-in-SetGlobal-clause-followed
returns-in-SetGlobal-clause-followed c = λ scripts p a.
    let style = c.args.style.now in
    let is = ap command_seen c.in-SetGlobal.is in
    let there = subst (λ (e : Edit). IsAccepted (tiles_in style) (globals_in style) (trees_in style) scripts p e c.args.before.now c.args.kept.now) is a in
    let held = subst (λ us. HoldsLayers slots_of (tiles_in style) p.globals us c.args.kept.now) (sym there.layers) there.right.holds in
    on_ok_weaker c.turn_globals.result
    (λ turned. subst (λ (e : Edit). FollowsEdit (tiles_in style) scripts p e c.turn_globals.new.self) (sym is)
    (after_globals (tiles_in style) (globals_in style) (trees_in style) scripts p c.args.before.now c.args.kept.now c.turn_globals.new.self _ _ there turned))
    (c.turn_globals.ensures p.globals held)

pub returns-in-SetGlobal-clause-images : goal.returns-in-SetGlobal-clause-images
returns-in-SetGlobal-clause-images c = on_err_so c.turn_globals.result (ap tells_image (ap command_seen c.in-SetGlobal.is))
