-- The sources of expressions give what is listed, and say which features pass.
use Rattle.std.proofs.Common.{◌≡◌, ◌∙◌, ℕ, ℤ, List, [], ◌∷◌, Bool, true, false, ◌&&◌, Option, Some, None, is_some, option_map, refl, sym, ap, subst, if◌then◌else◌}
use Rattle.std.specs.List.{slice_get}
use Rattle.std.proofs.lemmas.Bool.{true≢false}
use Rattle.std.proofs.lemmas.Option.{slice_get_within}
use Rattle.fixed_num.specs.Number.{floor_of}
use Rattle.operator_values.specs.Evaluated.{Evaluated}
use Rattle.expr_syntax.specs.Mentioned.{mentions}
use Rattle.eval_face.specs.Meaning.{mean}
use Rattle.eval_face.specs.Resolved.{passes}
use Rattle.eval_face.specs.World.{World}
use Rattle.expr_nodes.specs.Evaluators.{Sized, sized_term}
use Rattle.layer_buckets.specs.Seen.{given_at}
use Rattle.layer_buckets.specs.declared.cell.CellItem.{CellItem}
use Rattle.layer_buckets.specs.declared.cell.CellItem.TheVariants as items
use Rattle.layer_buckets.specs.declared.cell.Source.{Source}
use Rattle.style_layout.specs.Forms.{Property, Scene, reads_feature}
use Rattle.style_layout.specs.Layers.{StyleLayer, has_features}
use Rattle.style_layout.specs.Shown.{LayerFeature, is_shown, zoom_at}
use Rattle.asked_cells.specs.Asked.{IsDecided, cell_world}
use Rattle.asked_cells.specs.Asking.{has_feature_cells, passes_by}
use Rattle.asked_cells.specs.Expressions.{AreGiven, CellExpression, IsGivenBy, IsSourced, LayerExpressions}
use Rattle.cell_listing.specs.KeptListing.{outcome_by}
use Rattle.cell_listing.specs.Listable.{AllReadAsListed, ReadsAsListed}
use Rattle.cell_listing.proofs.ValueLaws.{fixed_same, same_for_all, zoom_by}
use Rattle.bare_listing.specs.Given.{AreGivenBy, Filters, GivesValue, IsSame, ItemSources, given_from, outcome_in}

module _ (scene : Scene) (slots : List Sized) where
  -- what the slot of a source gives in a world
  slot_gives : (slot : ℕ) (e : CellExpression) (world : World) → slice_get slots slot ≡ Some (sized_term e.term e.want)
      → given_at slots slot world ≡ Some (mean e.term e.want [] world)
  slot_gives slot e world at = ap (option_map (λ (z : Sized). z.0 world)) at

  -- ---- a value

  value_given : (p : Property) (e : CellExpression) (slot : ℕ) → slice_get slots slot ≡ Some (sized_term e.term e.want)
      → IsGivenBy p (Some e) → (feature : Option LayerFeature) (value : Evaluated)
      → given_at slots slot (cell_world scene (if e.paint then scene.zoom else floor_of scene.zoom) feature) ≡ Some value
      → outcome_in scene feature p ≡ outcome_by p.fallback (Some value)
  value_given p e slot at given feature value from =
      let zoom : (if e.paint then scene.zoom else floor_of scene.zoom) ≡ zoom_at scene.zoom p.row.place =
      ap (λ b. if b then scene.zoom else floor_of scene.zoom) given.0 ∙ zoom_by scene.zoom p.row.place in
      let world = cell_world scene (zoom_at scene.zoom p.row.place) feature in
      given.1 world
      ∙ ap (outcome_by p.fallback)
      (sym (slot_gives slot e world at) ∙ (ap (λ (z : ℤ). given_at slots slot (cell_world scene z feature)) (sym zoom) ∙ from))

  gives_value : (p : Property) (o : Option CellExpression) (source : Option Source)
      → IsSourced slots (items.Property p.row.number) o source → IsGivenBy p o → GivesValue scene slots source p
  gives_value p None source is given = subst (λ (s : Option Source). GivesValue scene slots s p) (sym is) given
  gives_value p (Some e) source (slot, is, at) given = subst (λ (s : Option Source). GivesValue scene slots s p) (sym is) (
    slice_get_within slots slot (sized_term e.term e.want) at,
    λ feature value from. value_given p e slot at given feature value from,
  )

  same_without : (p : Property) (o : Option CellExpression) (source : Option Source) → IsSourced slots (items.Property p.row.number) o source
      → IsGivenBy p o → is_some source ≡ false → (f g : LayerFeature) → outcome_in scene (Some f) p ≡ outcome_in scene (Some g) p
  same_without p None source is given none f g = fixed_same p.value p.row p.fallback
      (cell_world scene (zoom_at scene.zoom p.row.place) (Some f)) (cell_world scene (zoom_at scene.zoom p.row.place) (Some g)) given
  same_without p (Some e) source (slot, is, at) given none f g = absurd (true≢false (sym (ap is_some is) ∙ none))

  same_by : (p : Property) (o : Option CellExpression) (source : Option Source) → IsSourced slots (items.Property p.row.number) o source
      → IsGivenBy p o → ReadsAsListed p o → (own : Bool) → p.is_per_feature ≡ own → (own && is_some source) ≡ false
      → (f g : LayerFeature) → outcome_in scene (Some f) p ≡ outcome_in scene (Some g) p
  same_by p o source is given reads false own none f g =
      sym (same_for_all scene f p o given reads own) ∙ same_for_all scene g p o given reads own
  same_by p o source is given reads true own none f g = same_without p o source is given none f g

  is_same : (p : Property) (o : Option CellExpression) (source : Option Source) → IsSourced slots (items.Property p.row.number) o source
      → IsGivenBy p o → ReadsAsListed p o → IsSame scene source p
  is_same p o source is given reads = λ none f g. same_by p o source is given reads p.is_per_feature refl none f g

  -- the cell that a filter has for a feature
  pub own_shown : (layer : StyleLayer) (source : Option Source) (s : Source) → source ≡ Some s → Filters scene slots source layer
      → has_features layer.type ≡ true → has_feature_cells source ≡ true → (f : LayerFeature) (value : Evaluated)
      → given_from scene slots s (Some f) ≡ Some value → is_shown scene layer f ≡ passes value
  own_shown layer source s is filters typed own f value from =
      let here = subst (λ (o : Option Source). Filters scene slots o layer) is filters in
      let reads : reads_feature s.mentions ≡ true = ap has_feature_cells (sym is) ∙ own in
      here.1 typed f value (ap (λ b. given_from scene slots s (if b then Some f else None)) reads ∙ from)

  -- ---- a layer

  module _ (x : LayerExpressions) (sources : ItemSources) (sourced : (item : CellItem) → IsSourced slots item (x item) (sources item)) where
    pub all_given : (ps : List Property) → AreGiven x ps → AllReadAsListed x ps → AreGivenBy scene slots sources ps
    all_given [] given reads = tt
    all_given (p ∷ ps) given reads =
        let item = items.Property p.row.number in (
          (
            gives_value p (x item) (sources item) (sourced item) given.0,
            is_same p (x item) (sources item) (sourced item) given.0 reads.0,
          ),
          all_given ps given.1 reads.1,
        )

    filters_by : (layer : StyleLayer) (o : Option CellExpression) (source : Option Source) → IsSourced slots items.Filter o source
        → IsDecided scene o layer → Filters scene slots source layer
    filters_by layer None source is decided = subst (λ (s : Option Source). Filters scene slots s layer) (sym is) decided
    filters_by layer (Some e) source (slot, is, at) decided = subst (λ (s : Option Source). Filters scene slots s layer) (sym is) (
      slice_get_within slots slot (sized_term e.term e.want) at,
      λ typed f value from.
          let feature : Option LayerFeature = if reads_feature (mentions e.term) then Some f else None in
          let world = cell_world scene (if e.paint then scene.zoom else floor_of scene.zoom) feature in
          decided typed f ∙ ap passes_by (sym (slot_gives slot e world at) ∙ from),
    )

    pub filters_given : (layer : StyleLayer) → IsDecided scene (x items.Filter) layer → Filters scene slots (sources items.Filter) layer
    filters_given layer decided = filters_by layer (x items.Filter) (sources items.Filter) (sourced items.Filter) decided
