use Rattle.std.proofs.Common.{◌<◌, ◌∙◌, length, map, get_or, ap, refl, sym, subst, arith}
use Rattle.decimal_json.specs.View.{tree_of}
use Rattle.edit_script.specs.View.{command_seen}
use Rattle.feature_index.specs.Indexes.{AreIndexed}
use Rattle.style_edits.specs.Layers.{layer_list}
use Rattle.style_layout.specs.CodeView.{tile_seen}
use Rattle.edit_session.specs.OpenViews.{shown_in}
use Rattle.edit_session.specs.View.{tiles_of, view_seen}
use Rattle.edit_session.proofs.ViewsFollow.{accepted_in, all_followed, followed_in, next_accepted, next_followed}
use Rattle.edit_session.proofs.session.Session.follow_in_all.Goals as goal

pub follow_command-requires-clause-accepted : goal.follow_command-requires-clause-accepted
follow_command-requires-clause-accepted c =
    let s = c.args.self.now in
    let edit = command_seen c.args.command.now in
    let ts = layer_list (tree_of s.document) in
    let olds = c.args.views.now in
    let n = c.loop-view.view-index in
    let d = c.view-item.result in
    let (scripts, p, accepted) = c.requires.accepted in
    let within : n < length olds = omega (arith, c.loop-view-test.true) in
    let old = get_or olds n d in
    let over = c.shown_style-style.ensures.tiles ∙ ap (map tile_seen) c.as_slice.ensures.value in (
      scripts,
      shown_in p (view_seen old),
      accepted_in c.shown_style-style.result (tiles_of s) s.globals ts over c.shown_style-style.ensures.globals c.shown_style-style.ensures.layers
          scripts (shown_in p (view_seen old)) edit (get_or c.loop-view.views n d).kept c.args.before.now
          (next_accepted (tiles_of s) scripts p edit s.globals ts c.args.before.now n olds c.loop-view.views d within
          (c.loop-view.invariant.followed scripts p accepted) accepted),
    )

pub follow_command-requires-clause-indexed : goal.follow_command-requires-clause-indexed
follow_command-requires-clause-indexed c =
    let over = c.shown_style-style.ensures.tiles ∙ ap (map tile_seen) c.as_slice.ensures.value in
    subst (λ ts. AreIndexed ts c.loop-view.indexes) (sym over) c.loop-view.invariant.indexed

pub loop-view-init : goal.loop-view-init
loop-view-init c = record {
  indexed = c.new-indexes.ensures (tiles_of c.args.self.now);
  followed = λ scripts p accepted. refl;
}

pub loop-view-preserved : goal.loop-view-preserved
loop-view-preserved c =
    let over = c.shown_style-style.ensures.tiles ∙ ap (map tile_seen) c.as_slice.ensures.value in
    record {
      indexed = subst (λ ts. AreIndexed ts c.follow_command.new.indexes) over c.follow_command.ensures.indexed;
      followed = λ scripts p accepted.
          let s = c.args.self.now in
          let edit = command_seen c.args.command.now in
          let ts = layer_list (tree_of s.document) in
          let olds = c.args.views.now in
          let n = c.loop-view.view-index in
          let d = c.view-item.result in
          let within : n < length olds = omega (arith, c.loop-view-test.true) in
          let old = get_or olds n d in
          let over = c.shown_style-style.ensures.tiles ∙ ap (map tile_seen) c.as_slice.ensures.value in
          let first = c.loop-view.invariant.followed scripts p accepted in
          let there = accepted_in c.shown_style-style.result (tiles_of s) s.globals ts over c.shown_style-style.ensures.globals c.shown_style-style.ensures.layers
          scripts (shown_in p (view_seen old)) edit (get_or c.loop-view.views n d).kept c.args.before.now
          (next_accepted (tiles_of s) scripts p edit s.globals ts c.args.before.now n olds c.loop-view.views d within first accepted) in
          next_followed (tiles_of s) scripts p edit n olds c.loop-view.views d c.follow_command.new.kept within first
          (followed_in c.shown_style-style.result (tiles_of s) s.globals ts over c.shown_style-style.ensures.globals c.shown_style-style.ensures.layers
          scripts (shown_in p (view_seen old)) edit c.follow_command.new.kept
          (c.in_ok-follow_command.ensures.followed scripts (shown_in p (view_seen old)) there));
    }

pub returns-clause-followed : goal.returns-clause-followed
returns-clause-followed c = λ scripts p accepted.
    all_followed (tiles_of c.args.self.now) scripts p (command_seen c.args.command.now) c.loop-view.view-index c.args.views.now c.loop-view.views
    (omega (arith, c.loop-view-test.false)) (c.loop-view.invariant.followed scripts p accepted)
