-- Cells that mean the same in two scenes.
use Rattle.std.proofs.Common.{◌≡◌, ℕ, ℤ, List, [], Bool, true, false, ◌&&◌, Option, Some, None, not, refl, sym, ap, ◌∙◌}
use Rattle.std.specs.Prelude.{option_map}
use Rattle.std.specs.Option.{option_and_then}
use Rattle.std.specs.List.{slice_get}
use Rattle.std.specs.Ordering.{int_eq}
use Rattle.std.proofs.lemmas.Bool.{false≢true}
use Rattle.std.proofs.lemmas.Bool.Decides.{Decides-int_eq}
use Rattle.decimal_json.specs.Tree.{Tree}
use Rattle.prop_values.specs.Data.{Data}
use Rattle.tile_reader.specs.declared.tile.Feature.{Feature}
use Rattle.expr_syntax.specs.Mentioned.{mentions}
use Rattle.eval_face.specs.Agreement.{AgreeOn, AgreeingWorldsGiveOneMeaning}
use Rattle.style_layout.specs.Forms.{Scene}
use Rattle.style_layout.specs.Layers.{StyleLayer}
use Rattle.style_layout.specs.Shown.{LayerFeature, SourceTile, layer_features, state_of, with_state}
use Rattle.asked_cells.specs.Asked.{LayerCell, cell_world, feature_at, item_zoom, meaning, meaning_by}
use Rattle.asked_cells.specs.Expressions.{CellExpression}
use Rattle.kept_layers.specs.Changes.{TurnsImages, TurnsState, TurnsZoom}
use Rattle.kept_layers.specs.KeptLayers.{id_at, is_feature, is_stale_at, is_stale_image, is_stale_state, is_stale_zoom, layer_expressions, prepared_layer, reads_images, reads_state, seen_zoom}

same_int : (a b : ℤ) → int_eq a b ≡ true → a ≡ b
same_int a b t = (Decides-int_eq a b).0 t

-- what is not stale, though the expression reads the zoom, sees the zoom that it saw
sees_zoom : (reads same : Bool) → (reads && not same) ≡ false → reads ≡ true → same ≡ true
sees_zoom true true h e = refl
sees_zoom true false h e = absurd (false≢true (sym h))
sees_zoom false same h e = absurd (false≢true e)

second : (a b : Bool) → a ≡ true → (a && b) ≡ false → b ≡ false
second true b e h = h
second false b e h = absurd (false≢true e)

abbrev of_state : Scene → StyleLayer → ℕ → Option Feature → Option LayerFeature
of_state scene layer n o = option_map (λ f. with_state scene layer (n, f)) o

module _ (agreeing : AgreeingWorldsGiveOneMeaning) (tiles : List SourceTile) (globals : List (List ℕ × Data)) where
  -- ---- the zoom

  zoom_by : (before : Scene) (new : ℤ) (e : Option CellExpression) (f : Option LayerFeature) → is_stale_at before.zoom new e ≡ false
      → meaning_by before e f ≡ meaning_by (record before { zoom = new }) e f
  zoom_by before new None f fresh = refl
  zoom_by before new (Some e) f fresh =
      let after : Scene = record before { zoom = new } in
      agreeing e.term e.want [] (cell_world before (item_zoom before e) f) (cell_world after (item_zoom after e) f) (zoom_agrees f) where
        sees : (mentions e.term).zoom ≡ true → item_zoom before e ≡ item_zoom (record before { zoom = new }) e
        sees reads = same_int (seen_zoom before.zoom e) (seen_zoom new e)
            (sees_zoom (mentions e.term).zoom (int_eq (seen_zoom before.zoom e) (seen_zoom new e)) fresh reads)

        zoom_agrees : (g : Option LayerFeature) → AgreeOn (mentions e.term) (cell_world before (item_zoom before e) g)
            (cell_world (record before { zoom = new }) (item_zoom (record before { zoom = new }) e) g)
        zoom_agrees (Some g) = record {
          zoom = sees;
          feature = λ reads. (refl, refl, refl);
          state = λ reads. refl;
          image = λ reads s. refl;
          script = λ s. refl;
        }
        zoom_agrees None = record {
          zoom = sees;
          feature = λ reads. (refl, refl, refl);
          state = λ reads. refl;
          image = λ reads s. refl;
          script = λ s. refl;
        }

  pub zoom_means : (old new : ℤ) (before after : Scene) → TurnsZoom old new before after → (t : Tree) (c : LayerCell)
      → is_stale_zoom globals old new t c ≡ false
      → meaning before tiles (prepared_layer globals t) (layer_expressions globals t) c
      ≡ meaning after tiles (prepared_layer globals t) (layer_expressions globals t) c
  zoom_means old new before after turns t c fresh =
      zoom_by before new (layer_expressions globals t c.item) (feature_at before tiles (prepared_layer globals t) c.feature)
      (ap (λ z. is_stale_at z new (layer_expressions globals t c.item)) turns.was ∙ fresh)
      ∙ sym (ap (λ s. meaning s tiles (prepared_layer globals t) (layer_expressions globals t) c) turns.is)

  -- ---- images

  module _ (before after : Scene) (turns : TurnsImages before after) where
    images_agree : (e : CellExpression) (g : Option LayerFeature) → (mentions e.term).image ≡ false
        → AgreeOn (mentions e.term) (cell_world before (item_zoom before e) g) (cell_world after (item_zoom after e) g)
    images_agree e (Some g) fresh = record {
      zoom = λ reads. sym (ap (λ z. seen_zoom z e) turns.zoom);
      feature = λ reads. (refl, refl, refl);
      state = λ reads. refl;
      image = λ reads s. absurd (false≢true (sym fresh ∙ reads));
      script = λ s. sym (ap (λ f. f s) turns.scripts);
    }
    images_agree e None fresh = record {
      zoom = λ reads. sym (ap (λ z. seen_zoom z e) turns.zoom);
      feature = λ reads. (refl, refl, refl);
      state = λ reads. refl;
      image = λ reads s. absurd (false≢true (sym fresh ∙ reads));
      script = λ s. sym (ap (λ f. f s) turns.scripts);
    }

    images_by : (e : Option CellExpression) (f g : Option LayerFeature) → f ≡ g → reads_images e ≡ false → meaning_by before e f ≡ meaning_by after e g
    images_by None f g same fresh = refl
    images_by (Some e) f g same fresh =
        agreeing e.term e.want [] (cell_world before (item_zoom before e) f) (cell_world after (item_zoom after e) f) (images_agree e f fresh)
        ∙ ap (meaning_by after (Some e)) same

    pub images_mean : (t : Tree) (c : LayerCell) → is_stale_image globals t c ≡ false
        → meaning before tiles (prepared_layer globals t) (layer_expressions globals t) c
        ≡ meaning after tiles (prepared_layer globals t) (layer_expressions globals t) c
    images_mean t c fresh = images_by (layer_expressions globals t c.item)
        (feature_at before tiles (prepared_layer globals t) c.feature) (feature_at after tiles (prepared_layer globals t) c.feature)
        (λ i. feature_at (record before { states = sym turns.states i }) tiles (prepared_layer globals t) c.feature) fresh

  -- ---- the state of a feature

  module _ (source source_layer : List ℕ) (id : ℕ) (before after : Scene) (turns : TurnsState source source_layer id before after) where
    -- what is the same of a feature beside its state, which is another only where it is the one that changed
    state_same : (layer : StyleLayer) (i : Option ℕ) → is_feature source source_layer id layer i ≡ false
        → state_of before layer i ≡ state_of after layer i
    state_same layer None other = refl
    state_same layer (Some i) other = sym (turns.states layer.source layer.source_layer i other)

    state_agrees : (e : CellExpression) (layer : StyleLayer) (n : ℕ) (o : Option Feature)
        → ((mentions e.term).state ≡ true → is_feature source source_layer id layer (option_and_then (λ (f : Feature). f.id) o) ≡ false)
        → AgreeOn (mentions e.term) (cell_world before (item_zoom before e) (of_state before layer n o))
        (cell_world after (item_zoom after e) (of_state after layer n o))
    state_agrees e layer n (Some f) fresh = record {
      zoom = λ reads. sym (ap (λ z. seen_zoom z e) turns.zoom);
      feature = λ reads. (refl, refl, refl);
      state = λ reads. state_same layer f.id (fresh reads);
      image = λ reads s. sym (ap (λ g. g s) turns.images);
      script = λ s. sym (ap (λ g. g s) turns.scripts);
    }
    state_agrees e layer n None fresh = record {
      zoom = λ reads. sym (ap (λ z. seen_zoom z e) turns.zoom);
      feature = λ reads. (refl, refl, refl);
      state = λ reads. refl;
      image = λ reads s. sym (ap (λ g. g s) turns.images);
      script = λ s. sym (ap (λ g. g s) turns.scripts);
    }

    state_by : (e : Option CellExpression) (layer : StyleLayer) (f : Option ℕ)
        → (reads_state e && is_feature source source_layer id layer (id_at tiles layer f)) ≡ false
        → meaning_by before e (feature_at before tiles layer f) ≡ meaning_by after e (feature_at after tiles layer f)
    state_by None layer f fresh = refl
    state_by (Some e) layer (Some n) fresh =
        agreeing e.term e.want [] _ _ (state_agrees e layer n (slice_get (layer_features tiles layer) n)
        (λ reads. second (mentions e.term).state (is_feature source source_layer id layer (id_at tiles layer (Some n))) reads fresh))
    state_by (Some e) layer None fresh = agreeing e.term e.want [] _ _ (state_agrees e layer 0 None (λ reads. refl))

    pub state_means : (t : Tree) (c : LayerCell) → is_stale_state tiles globals source source_layer id t c ≡ false
        → meaning before tiles (prepared_layer globals t) (layer_expressions globals t) c
        ≡ meaning after tiles (prepared_layer globals t) (layer_expressions globals t) c
    state_means t c fresh = state_by (layer_expressions globals t c.item) (prepared_layer globals t) c.feature fresh
