use Rattle.std.proofs.Common.{map, refl, sym, subst}
use Rattle.std.proofs.lemmas.Result.{IfOk-weaker}
use Rattle.decimal_json.specs.Tree.{null}
use Rattle.decimal_json.specs.View.{items_view}
use Rattle.style_edits.specs.Undone.{IsWithin, undone_layers}
use Rattle.style_edits.specs.declared.undo.Undo.{Undo}
use Rattle.style_layout.specs.CodeView.{tile_seen}
use Rattle.edit_session.specs.PreparedLayers.{ArePrepared}
use Rattle.kept_layers.specs.KeptLayers.{outline_of}
use Rattle.kept_layers.specs.View.{IsTyped}
use Rattle.edit_session.proofs.FollowSteps.{added_follows, changed_follows, moved_follows, removed_follows}
use Rattle.edit_session.proofs.LayerLists.{item_at, typed_at}
use Rattle.edit_session.proofs.layers.PreparedLayers.follow.Goals as goal

pub change-requires-clause-typed : goal.change-requires-clause-typed
change-requires-clause-typed c =
    let us = items_view c.args.layers.now in
    let within = subst (λ (u : Undo). IsWithin u us) c.in-Changed.is c.requires.within in
    subst IsTyped (sym (item_at c.args.layers.now _ _ within c.index-layers-place.is)) (typed_at us _ within c.requires.typed)

pub add-requires-clause-typed : goal.add-requires-clause-typed
add-requires-clause-typed c =
    let us = items_view c.args.layers.now in
    let within = subst (λ (u : Undo). IsWithin u us) c.in-Added.is c.requires.within in
    subst IsTyped (sym (item_at c.args.layers.now _ _ within c.index-layers-place-in-Added.is)) (typed_at us _ within c.requires.typed)

pub returns-in-Changed-clause-follows : goal.returns-in-Changed-clause-follows
returns-in-Changed-clause-follows c =
    let tiles = map tile_seen c.args.tiles.now in
    let us = items_view c.args.layers.now in
    let old = c.args.self.now in
    let within = subst (λ (u : Undo). IsWithin u us) c.in-Changed.is c.requires.within in
    let before = subst (λ (u : Undo). ArePrepared tiles c.args.globals.now (undone_layers u us) old) c.in-Changed.is c.requires.before in
    IfOk-weaker c.change.result _ _
    (λ is_done b. changed_follows tiles c.args.globals.now us old c.change.new.self _ _ _ is_done before (item_at c.args.layers.now _ _ within c.index-layers-place.is) b)
    c.change.ensures

pub returns-in-Added-clause-follows : goal.returns-in-Added-clause-follows
returns-in-Added-clause-follows c =
    let tiles = map tile_seen c.args.tiles.now in
    let us = items_view c.args.layers.now in
    let old = c.args.self.now in
    let within = subst (λ (u : Undo). IsWithin u us) c.in-Added.is c.requires.within in
    let before = subst (λ (u : Undo). ArePrepared tiles c.args.globals.now (undone_layers u us) old) c.in-Added.is c.requires.before in
    IfOk-weaker c.add.result _ _
    (λ is_done b. added_follows tiles c.args.globals.now us old c.add.new.self _ _ is_done within before (item_at c.args.layers.now _ _ within c.index-layers-place-in-Added.is) b)
    c.add.ensures

pub returns-in-Removed-clause-follows : goal.returns-in-Removed-clause-follows
returns-in-Removed-clause-follows c =
    let tiles = map tile_seen c.args.tiles.now in
    let us = items_view c.args.layers.now in
    let old = c.args.self.now in
    let globals = c.args.globals.now in
    let within = subst (λ (u : Undo). IsWithin u us) c.in-Removed.is c.requires.within in
    let before = subst (λ (u : Undo). ArePrepared tiles globals (undone_layers u us) old) c.in-Removed.is c.requires.before in
    removed_follows tiles globals us old c.remove.new.self _ _ within before c.requires.few (outline_of globals null)
    c.remove.ensures.layers c.remove.ensures.cells c.remove.ensures.reads c.remove.ensures.limit

pub returns-in-Moved-clause-follows : goal.returns-in-Moved-clause-follows
returns-in-Moved-clause-follows c =
    let tiles = map tile_seen c.args.tiles.now in
    let us = items_view c.args.layers.now in
    let old = c.args.self.now in
    let globals = c.args.globals.now in
    let within = subst (λ (u : Undo). IsWithin u us) c.in-Moved.is c.requires.within in
    let before = subst (λ (u : Undo). ArePrepared tiles globals (undone_layers u us) old) c.in-Moved.is c.requires.before in
    moved_follows tiles globals us old _ _ _ within.0 within.1 before c.requires.few (outline_of globals null)
    (c.move_layer.ensures (outline_of globals null)) refl refl refl
