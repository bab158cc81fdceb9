use Rattle.std.proofs.Common.{◌∙◌, ap, length, map, sym}
use Rattle.std.proofs.lemmas.List.{length-map, length-replicate}
use Rattle.style_edits.proofs.DocumentLaws.{layers_listed}
use Rattle.decimal_json.specs.View.{tree_of}
use Rattle.feature_states.specs.Members.{members_at}
use Rattle.kept_layers.specs.Changes.{nothing_kept}
use Rattle.kept_layers.specs.View.{kept_seen}
use Rattle.style_layout.specs.CodeView.{tile_seen}
use Rattle.edit_session.specs.SessionState.{SessionState, scene_of}
use Rattle.edit_session.proofs.ListedLaws.{kept_from}
use Rattle.edit_session.proofs.session.Session.over.Goals as goal

pub returns-clause-opened : goal.returns-clause-opened
returns-clause-opened c = λ has_image. λ k. record {
  document = tree_of c.args.style;
  zoom = c.new-zoom.ensures k;
  states = λ source layer id. c.new-states.ensures source layer id k;
  has_image = has_image;
  globals = c.requires.globals k;
  limit = c.args.first.layers.limit;
  kept = (c.in_ok-kept.ensures.kept ∙ ap nothing_kept c.shown_style-shown.ensures.layers) k;
  last = 0;
}

pub returns-clause-sound : goal.returns-clause-sound
returns-clause-sound c = λ has_image scripts.
    let tiles = map tile_seen c.args.tiles.items in
    let p : SessionState = record {
      document = tree_of c.args.style;
      zoom = c.new-zoom.result;
      states = members_at c.new-states.result;
      has_image = has_image;
      globals = c.args.first.globals;
      limit = c.args.first.layers.limit;
      kept = kept_seen c.in_ok-kept.kept;
      last = 0;
    } in
    record {
      ready = λ off. (c.requires.whole, (c.in_ok-marks.ensures, c.new.ensures tiles));
      kept = λ off. kept_from tiles scripts p c.shown_style-shown.result c.shown_style-shown.ensures.layers c.shown_style-shown.ensures.globals
          (c.shown_style-shown.ensures.tiles ∙ ap (map tile_seen) c.as_slice.ensures.value) c.in_ok-kept.kept
          c.in_ok-kept.ensures.numbered c.in_ok-kept.ensures.holds (c.in_ok-kept.ensures.right (scene_of scripts p));
    }

pub returns-clause-slots : goal.returns-clause-slots
returns-clause-slots c =
    let js = c.layers_of.result.now in
    ap length c.in_ok-ranges.ensures ∙ (length-replicate _ _
    ∙ (sym (length-map js tree_of) ∙ ap length (layers_listed (tree_of c.args.style) js c.layers_of.ensures)))
