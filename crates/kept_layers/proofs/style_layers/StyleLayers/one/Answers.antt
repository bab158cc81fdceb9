use Rattle.std.proofs.Common.{◌<◌, length, refl, sym, subst, ◌∙◌, arith}
use Rattle.std.specs.Prelude.{slice_index_or}
use Rattle.std.proofs.lemmas.List.{length-map}
use Rattle.decimal_json.specs.Tree.{null}
use Rattle.style_layout.specs.CodeView.{layer_seen, layers_seen}
use Rattle.style_layout.specs.Shown.{layer_features}
use Rattle.kept_layers.specs.KeptLayers.{outline_of, prepared_layer, prepared_layers}
use Rattle.kept_layers.specs.View.{IsTyped, globals_in, tiles_in, trees_in}
use Rattle.kept_layers.proofs.OneLayers.{few_at, outline_at, prepared_at, tree_at, typed_at, within_layers}
use Rattle.kept_layers.proofs.style_layers.StyleLayers.one.Goals as goal

pub returns-clause-one : goal.returns-clause-one
returns-clause-one c =
    let s = c.args.self.now in
    let within = within_layers s.layers.now c.args.place c.requires.within in
    let item = tree_at s.layers.now c.args.place c.index-self-place.result null within in
    let known = prepared_layer (globals_in s) (slice_index_or (trees_in s) c.args.place null) in
    let found = c.layer.ensures
    ∙ outline_at (globals_in s) (trees_in s) (layers_seen s.style.now) c.args.place null (layer_seen c.layer.result.now) c.requires.within c.requires.prepared.prepared in
    let counted : c.args.place < length (prepared_layers (globals_in s) (trees_in s)) = omega (arith, c.requires.within, length-map (trees_in s) (prepared_layer (globals_in s))) in
    record {
      few = subst (λ l. length (layer_features (tiles_in s) l) < 4294967295) (sym found)
          (subst (λ l. length (layer_features (tiles_in s) l) < 4294967295)
          (prepared_at (globals_in s) (trees_in s) (prepared_layers (globals_in s) (trees_in s)) c.args.place null known c.requires.within refl)
          (few_at (tiles_in s) (prepared_layers (globals_in s) (trees_in s)) c.args.place 4294967295 known counted c.requires.prepared.few));
      typed = subst IsTyped item (typed_at (trees_in s) c.args.place null c.requires.within c.requires.prepared.typed);
      prepared = found ∙ (λ i. outline_of (globals_in s) (item i));
    }
