-- What an expression mentions is all that counts for its cells; so one cell of a filter that mentions no feature and no
-- state answers of all features.
use Rattle.std.proofs.Common.{◌≡◌, ◌∙◌, ℕ, ℤ, List, [], refl, ap, sym, true, false}
use Rattle.std.specs.Prelude.{Bool, ◌||◌, codes, Option, Some, None, if◌then◌else◌}
use Rattle.std.specs.Option.{option_and_then}
use Rattle.fixed_num.specs.Number.{floor_of}
use Rattle.decimal_json.specs.Tree.{Tree}
use Rattle.decimal_json.specs.Accessors.{member}
use Rattle.prop_values.specs.Data.{Data}
use Rattle.tile_reader.specs.declared.tile.Feature.{Feature}
use Rattle.expr_syntax.specs.Mentioned.{mentions}
use Rattle.expr_syntax.specs.declared.world_parts.Mentions.{Mentions}
use Rattle.eval_face.specs.Agreement.{AgreeOn, AgreeingWorldsGiveOneMeaning}
use Rattle.eval_face.specs.Meaning.{mean}
use Rattle.eval_face.specs.World.{World}
use Rattle.eval_face.specs.Resolved.{passes}
use Rattle.style_layout.specs.Forms.{LayerFilter, Scene, layer_filter, lets_pass, reads_feature}
use Rattle.style_layout.specs.Shown.{LayerFeature, world_at}
use Rattle.asked_cells.specs.Asked.{answer_by, cell_world, given_by, item_zoom}
use Rattle.asked_cells.specs.Expressions.{CellExpression}
use Rattle.cell_sources.specs.CellExpressions.{filter_expression}
use Rattle.cell_sources.specs.CellLaws.{CellsMeanTheSame, ExpressionsDecideFilters, FiltersAreDecided, IsDecidedBy, SeesTheSame, seen_feature, seen_state}

world_seen : (s : Scene) (zoom : ℤ) (f : Option LayerFeature) → cell_world s zoom f ≡ world_at s zoom (seen_feature f) (seen_state f)
world_seen s zoom (Some f) = refl
world_seen s zoom None = refl

module _ (e : CellExpression) (s r : Scene) (f g : Option LayerFeature) where
  abbrev first_world : World
  first_world = world_at s (item_zoom s e) (seen_feature f) (seen_state f)

  abbrev second_world : World
  second_world = world_at r (item_zoom r e) (seen_feature g) (seen_state g)

  worlds_agree : SeesTheSame e s r f g → AgreeOn (mentions e.term) first_world second_world
  worlds_agree sees = record {
    zoom = sees.zoom;
    feature = λ mentioned. let same = sees.feature mentioned in
        (ap (λ (x : Feature). x.shape) same, ap (λ (x : Feature). x.id) same, ap (λ (x : Feature). x.properties) same);
    state = sees.state;
    image = sees.image;
    script = sees.script;
  }

pub cells_alike : AgreeingWorldsGiveOneMeaning → CellsMeanTheSame
cells_alike agreeing e s r f g sees =
    ap (mean e.term e.want []) (world_seen s (item_zoom s e) f)
    ∙ (agreeing e.term e.want [] (first_world e s r f g) (second_world e s r f g) (worlds_agree e s r f g sees)
    ∙ sym (ap (mean e.term e.want []) (world_seen r (item_zoom r e) g)))

-- ---- filters

no_feature_read : (m : Mentions) → reads_feature m ≡ false → m.feature ≡ true → ⊥
no_feature_read m none read = let same : true ≡ false = sym (ap (λ b. b || m.state) read) ∙ none in absurd (cc)

no_state_read : (m : Mentions) → reads_feature m ≡ false → m.state ≡ true → ⊥
no_state_read m none read = by m.feature none
  where
    by : (b : Bool) → (b || m.state) ≡ false → ⊥
    by true none = absurd (cc)
    by false none = let same : true ≡ false = sym read ∙ none in absurd (cc)

module _ (agreeing : AgreeingWorldsGiveOneMeaning) (scene : Scene) where
  abbrev filter_world : LayerFeature → World
  filter_world f = world_at scene (floor_of scene.zoom) f.feature f.state

  -- an expression that reads no feature and no state gives the same of each
  given_of_all : (e : CellExpression) (f : LayerFeature) → reads_feature (mentions e.term) ≡ false
      → given_by scene e (Some f) ≡ given_by scene e None
  given_of_all e f none = cells_alike agreeing e scene scene (Some f) None (record {
    zoom = λ mentioned. refl;
    feature = λ mentioned. absurd (no_feature_read (mentions e.term) none mentioned);
    state = λ mentioned. absurd (no_state_read (mentions e.term) none mentioned);
    image = λ mentioned name. refl;
    script = λ text. refl;
  })

  by_cell : (e : CellExpression) (f : LayerFeature) (b : Bool) → reads_feature (mentions e.term) ≡ b
      → passes (given_by scene e (Some f)) ≡ passes (given_by scene e (if b then Some f else None))
  by_cell e f true is = refl
  by_cell e f false is = ap passes (given_of_all e f is)

  by_answer : (filter : LayerFilter) (o : Option CellExpression) → IsDecidedBy filter o → (f : LayerFeature)
      → lets_pass filter (filter_world f) ≡ answer_by scene o filter f
  by_answer filter None decided f = decided (filter_world f)
  by_answer filter (Some e) decided f =
      let at = λ (z : ℤ). passes (mean e.term e.want [] (world_at scene z f.feature f.state)) in
      let own : at (floor_of scene.zoom) ≡ passes (given_by scene e (Some f)) =
      sym (ap (λ b. at (if b then scene.zoom else floor_of scene.zoom)) decided.0) in
      decided.1 (filter_world f) ∙ (own ∙ by_cell e f (reads_feature (mentions e.term)) refl)

  module _ (decide : ExpressionsDecideFilters) (globals : List (List ℕ × Data)) where
    of_filter : (o : Option Tree) (f : LayerFeature) → lets_pass (layer_filter globals o) (filter_world f)
        ≡ answer_by scene (option_and_then (filter_expression globals) o) (layer_filter globals o) f
    of_filter (Some t) f = by_answer (layer_filter globals (Some t)) (filter_expression globals t) (decide globals t) f
    of_filter None f = refl

pub filters_decided : AgreeingWorldsGiveOneMeaning → ExpressionsDecideFilters → FiltersAreDecided
filters_decided agreeing decide scene globals type layer shows f =
    let set = member (codes "filter") layer in
    of_filter agreeing scene decide globals set f
    ∙ ap (λ b. answer_by scene (if b then option_and_then (filter_expression globals) set else None) (layer_filter globals set) f) (sym shows)
