use Rattle.std.proofs.Common.{◌≡◌, ◌∙◌, ap, get_or, sym}
use Rattle.std.proofs.lemmas.List.{get_or-map}
use Rattle.decimal_json.specs.Tree.{null}
use Rattle.decimal_json.specs.View.{tree_of}
use Rattle.style_layout.proofs.FilledLayers.{layer_filled}
use Rattle.style_layout.specs.CodeView.{layer_seen, layers_seen}
use Rattle.kept_layers.specs.KeptLayers.{outline_of, prepared_layer, type_of}
use Rattle.kept_layers.specs.View.{globals_in, trees_in}
use Rattle.kept_layers.proofs.OneLayers.{outline_at, outline_within, tree_at, within_layers}
use Rattle.kept_layers.proofs.style_layers.StyleLayers.listed_layer.Goals as goal

pub layer-requires : goal.layer-requires
layer-requires c =
    let s = c.args.self.now in
    outline_within (globals_in s) (trees_in s) (layers_seen s.style.now) c.args.place c.requires.within c.requires.prepared.prepared

pub returns : goal.returns
returns c =
    let s = c.args.self.now in
    let globals = globals_in s in
    let ts = trees_in s in
    let place = c.args.place in
    let json = get_or s.layers.now place c.index-self-place.result in
    let item = tree_at s.layers.now place c.index-self-place.result null (within_layers s.layers.now place c.requires.within) in
    let outline : layer_seen c.layer.result.now ≡ outline_of globals (tree_of json) = c.layer.ensures
    ∙ (outline_at globals ts (layers_seen s.style.now) place null (layer_seen c.layer.result.now) c.requires.within c.requires.prepared.prepared
    ∙ ap (outline_of globals) item) in
    layer_filled globals (tree_of json) (type_of (tree_of json)) c.layer.result.now outline
    ∙ (ap (prepared_layer globals) (sym item) ∙ sym (get_or-map (prepared_layer globals) ts place null _ c.requires.within))
