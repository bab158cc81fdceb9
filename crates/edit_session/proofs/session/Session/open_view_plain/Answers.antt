use Rattle.std.proofs.Common.{◌∙◌, ap, map}
use Rattle.feature_states.specs.Members.{members_at}
use Rattle.kept_layers.specs.Changes.{nothing_kept}
use Rattle.kept_layers.specs.View.{kept_seen}
use Rattle.style_layout.specs.CodeView.{tile_seen}
use Rattle.edit_session.specs.OpenViews.{OpenView, shown_in}
use Rattle.edit_session.specs.SessionState.{scene_of}
use Rattle.edit_session.specs.View.{tiles_of}
use Rattle.edit_session.specs.PlainView.{plain_state}
use Rattle.edit_session.proofs.ListedLaws.{kept_from}
use Rattle.edit_session.proofs.session.Session.open_view_plain.Goals as goal

pub returns-clause-view : goal.returns-clause-view
returns-clause-view c = λ has_image. λ k. record {
  name = c.args.name;
  zoom = c.new-zoom.ensures k;
  states = λ source layer id. c.new-states.ensures source layer id k;
  kept = (c.in_ok-kept.ensures.kept ∙ ap nothing_kept c.shown_style-style.ensures.layers) k;
  last = 0;
}

pub returns-clause-sound : goal.returns-clause-sound
returns-clause-sound c = λ has_image scripts. λ off.
    let s = c.args.self.now in
    let view : OpenView = record {
      name = c.args.name;
      zoom = c.new-zoom.result;
      states = members_at c.new-states.result;
      kept = kept_seen c.in_ok-kept.kept;
      last = 0;
    } in
    let p = shown_in (plain_state s has_image) view in
    kept_from (tiles_of s) scripts p c.shown_style-style.result c.shown_style-style.ensures.layers c.shown_style-style.ensures.globals
    (c.shown_style-style.ensures.tiles ∙ ap (map tile_seen) c.as_slice.ensures.value) c.in_ok-kept.kept
    c.in_ok-kept.ensures.numbered c.in_ok-kept.ensures.holds (c.in_ok-kept.ensures.right (scene_of scripts p))
