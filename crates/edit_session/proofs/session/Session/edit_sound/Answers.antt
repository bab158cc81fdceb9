use Rattle.std.proofs.Common.{◌≡◌, List, ap, map, sym, subst, ◌∙◌}
use Rattle.decimal_json.specs.View.{items_view, tree_of}
use Rattle.edit_script.specs.View.{command_seen}
use Rattle.style_edits.proofs.DocumentLaws.{layers_listed}
use Rattle.style_edits.specs.Layers.{layer_list}
use Rattle.style_edits.specs.Undone.{IsWithin, undone_layers}
use Rattle.style_layout.specs.CodeView.{tile_seen}
use Rattle.style_layout.specs.Shown.{SourceTile}
use Rattle.style_rules.specs.Findings.{findings}
use Rattle.edit_session.specs.Applied.{done, refused}
use Rattle.edit_session.specs.LayerMarks.{AreMarks}
use Rattle.edit_session.specs.PreparedLayers.{ArePrepared, Follows}
use Rattle.kept_layers.specs.View.{AreTyped}
use Rattle.edit_session.specs.View.{tiles_of}
use Rattle.edit_session.specs.PlainView.{plain_state}
use Rattle.edit_session.specs.declared.answer.Refusal.TheVariants.{CellLimit}
use Rattle.edit_session.proofs.AppliedLaws.{accepted_is_sound, layers_accepted, layers_refused}
use Rattle.edit_session.proofs.FollowLaws.{before_edit, few_cells, is_prepared, is_refused, is_whole, not_refused}
use Rattle.edit_session.proofs.session.Session.edit_sound.Goals as goal

pub note_types-requires : goal.note_types-requires
note_types-requires c =
    let s = c.args.self.now in accepted_is_sound s.layers.limit (tiles_of s) s.globals (tree_of s.document) c.requires.ready.0.is_accepted

pub note_types-requires-2 : goal.note_types-requires-2
note_types-requires-2 c = ap findings c.in_ok-undo.ensures.edited ∙ c.requires.sound

pub follow-requires-clause-before : goal.follow-requires-clause-before
follow-requires-clause-before c =
    let s = c.args.self.now in
    let after = tree_of c.edit_at.new.style in
    let us = items_view c.layers_of.result.now in
    let is : us ≡ layer_list after = layers_listed after c.layers_of.result.now c.layers_of.ensures in
    let before = before_edit c.in_ok-undo.undo (tree_of s.document) after us c.in_ok-undo.ensures.undo c.note_types-2.ensures.there is in
    subst (λ (tiles : List SourceTile). ArePrepared tiles s.globals (undone_layers c.in_ok-undo.undo us) s.layers)
    (sym (ap (map tile_seen) c.as_slice.ensures.value))
    (is_prepared (tiles_of s) s.globals (tree_of s.document) s.layers _ c.requires.ready.0 c.note_types.ensures.typed before)

pub follow-requires-clause-few : goal.follow-requires-clause-few
follow-requires-clause-few c =
    let s = c.args.self.now in
    few_cells (tiles_of s) s.globals (tree_of s.document) s.layers c.requires.ready.0
    (accepted_is_sound s.layers.limit (tiles_of s) s.globals (tree_of s.document) c.requires.ready.0.is_accepted)

pub follow-requires-clause-within : goal.follow-requires-clause-within
follow-requires-clause-within c =
    let after = tree_of c.edit_at.new.style in
    subst (IsWithin c.in_ok-undo.undo) (sym (layers_listed after c.layers_of.result.now c.layers_of.ensures)) c.in_ok-undo.ensures.undo.0

pub follow-requires-clause-typed : goal.follow-requires-clause-typed
follow-requires-clause-typed c =
    let after = tree_of c.edit_at.new.style in
    subst AreTyped (sym (layers_listed after c.layers_of.result.now c.layers_of.ensures)) c.note_types-2.ensures.typed

pub returns-then-is_done-clause-answer : goal.returns-then-is_done-clause-answer
returns-then-is_done-clause-answer c = λ has_image scripts can_change.
    let s = c.args.self.now in
    let after = tree_of c.edit_at.new.style in
    let us = items_view c.layers_of.result.now in
    let is : us ≡ layer_list after = layers_listed after c.layers_of.result.now c.layers_of.ensures in
    let none = ap findings c.in_ok-undo.ensures.edited ∙ c.requires.sound in
    let follows = subst (λ (tiles : List SourceTile). Follows tiles s.globals us c.in_ok-is_done.is_done s.layers c.follow.new.self)
    (ap (map tile_seen) c.as_slice.ensures.value) c.in_ok-is_done.ensures.follows in
    (λ k. (record (plain_state s has_image) { document = after; limit = follows.same_limit k }, done))
    ∙ layers_accepted (tiles_of s) scripts can_change (plain_state s has_image) (command_seen c.args.command.now)
    c.requires.layers c.requires.possible after c.in_ok-undo.ensures.edited
    (not_refused (tiles_of s) s.globals s.layers.limit after none c.note_types-2.ensures.typed us is (sym c.if-is_done.true ∙ follows.limit))

pub returns-then-is_done-clause-ready : goal.returns-then-is_done-clause-ready
returns-then-is_done-clause-ready c =
    let s = c.args.self.now in
    let after = tree_of c.edit_at.new.style in
    let us = items_view c.layers_of.result.now in
    let is : us ≡ layer_list after = layers_listed after c.layers_of.result.now c.layers_of.ensures in
    let none = ap findings c.in_ok-undo.ensures.edited ∙ c.requires.sound in
    let follows = subst (λ (tiles : List SourceTile). Follows tiles s.globals us c.in_ok-is_done.is_done s.layers c.follow.new.self)
    (ap (map tile_seen) c.as_slice.ensures.value) c.in_ok-is_done.ensures.follows in (
      is_whole (tiles_of s) s.globals s.layers.limit after none c.note_types-2.ensures.typed us is c.follow.new.self follows.same_limit c.requires.ready.0.is_limited
          (sym c.if-is_done.true ∙ follows.limit) (follows.prepared c.if-is_done.true),
      (
        subst (AreMarks c.follow-then-is_done.new.self) (layers_listed after c.layers_of-then-is_done.result.now c.layers_of-then-is_done.ensures)
            c.in_ok-follow.ensures.marks,
        c.requires.ready.1.1,
      ),
    )

pub returns-clause-answer : goal.returns-clause-answer
returns-clause-answer c = λ has_image scripts can_change.
    let s = c.args.self.now in
    let after = tree_of c.edit_at.new.style in
    let us = items_view c.layers_of.result.now in
    let is : us ≡ layer_list after = layers_listed after c.layers_of.result.now c.layers_of.ensures in
    let none = ap findings c.in_ok-undo.ensures.edited ∙ c.requires.sound in
    let follows = subst (λ (tiles : List SourceTile). Follows tiles s.globals us c.in_ok-is_done.is_done s.layers c.follow.new.self)
    (ap (map tile_seen) c.as_slice.ensures.value) c.in_ok-is_done.ensures.follows in
    (λ k. (record (plain_state s has_image) { document = tree_of c.undo_edit.new.style; limit = follows.same_limit k }, refused CellLimit))
    ∙ layers_refused (tiles_of s) scripts can_change (plain_state s has_image) (command_seen c.args.command.now)
    c.requires.layers c.requires.possible after c.in_ok-undo.ensures.edited CellLimit (tree_of c.undo_edit.new.style)
    (is_refused (tiles_of s) s.globals s.layers.limit after none c.note_types-2.ensures.typed us is (sym c.if-is_done.false ∙ follows.limit))
    (c.in_ok-undo_edit.ensures.ok ∙ c.in_ok-undo.ensures.undo.1)

pub follow-requires-then-is_done-clause-before : goal.follow-requires-then-is_done-clause-before
follow-requires-then-is_done-clause-before c =
    let s = c.args.self.now in
    let after = tree_of c.edit_at.new.style in
    let us = items_view c.layers_of-then-is_done.result.now in
    let is : us ≡ layer_list after = layers_listed after c.layers_of-then-is_done.result.now c.layers_of-then-is_done.ensures in
    subst (AreMarks s.marks) (before_edit c.in_ok-undo.undo (tree_of s.document) after us c.in_ok-undo.ensures.undo c.note_types-2.ensures.there is)
    c.requires.ready.1.0

pub follow-requires-then-is_done-clause-within : goal.follow-requires-then-is_done-clause-within
follow-requires-then-is_done-clause-within c =
    let after = tree_of c.edit_at.new.style in
    subst (IsWithin c.in_ok-undo.undo) (sym (layers_listed after c.layers_of-then-is_done.result.now c.layers_of-then-is_done.ensures)) c.in_ok-undo.ensures.undo.0
