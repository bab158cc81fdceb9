use Rattle.std.proofs.Common.{◌∙◌, ap, map, refl, sym}
use Rattle.decimal_json.specs.View.{tree_of}
use Rattle.style_edits.proofs.DocumentLaws.{layers_listed}
use Rattle.style_layout.specs.CodeView.{tile_seen}
use Rattle.kept_layers.specs.KeptLayers.{prepared_layers}
use Rattle.edit_session.proofs.AppliedLaws.{accepted_is_sound}
use Rattle.edit_session.proofs.FollowLaws.{style_is, style_prepared}
use Rattle.edit_session.proofs.following.shown_style.Goals as goal

pub note_types-requires : goal.note_types-requires
note_types-requires c =
    let p = c.args.layers.now in
    accepted_is_sound p.limit (map tile_seen c.args.tiles.now) c.args.globals.now (tree_of c.args.document.now) c.requires.is_accepted

pub returns-clause-layers : goal.returns-clause-layers
returns-clause-layers c = layers_listed (tree_of c.args.document.now) c.layers_of.result.now c.layers_of.ensures

pub returns-clause-style : goal.returns-clause-style
returns-clause-style c =
    let d = tree_of c.args.document.now in
    let globals = c.args.globals.now in
    ap (prepared_layers globals) (layers_listed d c.layers_of.result.now c.layers_of.ensures)
    ∙ sym (style_is (map tile_seen c.args.tiles.now) globals d c.note_types.ensures.typed)

pub returns-clause-prepared : goal.returns-clause-prepared
returns-clause-prepared c =
    let p = c.args.layers.now in
    let d = tree_of c.args.document.now in
    let tiles = map tile_seen c.args.tiles.now in
    style_prepared tiles c.args.globals.now d p _ c.requires
    (accepted_is_sound p.limit tiles c.args.globals.now d c.requires.is_accepted) c.note_types.ensures.typed
    (layers_listed d c.layers_of.result.now c.layers_of.ensures) refl refl refl
