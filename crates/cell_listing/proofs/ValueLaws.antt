-- What is kept of the cells of values is what is listed for them.
use Rattle.std.proofs.Common.{◌≡◌, ◌∙◌, ℕ, ℤ, List, [], ◌∷◌, Bool, true, false, not, ◌||◌, Option, Some, None, map, refl, sym, ap, subst, if◌then◌else◌}
use Rattle.std.specs.Prelude.{filter, is_some}
use Rattle.std.specs.List.{AllByRecursion}
use Rattle.std.proofs.lemmas.Bool.{true≢false}
use Rattle.fixed_num.specs.Number.{floor_of}
use Rattle.prop_values.specs.Data.{Data}
use Rattle.prop_values.specs.declared.outcome.Outcome.{Outcome}
use Rattle.property_tables.specs.Rows.{RowData}
use Rattle.property_tables.specs.declared.property_row.Place.{Place}
use Rattle.property_tables.specs.declared.property_row.Place.TheVariants.{Layout, Paint}
use Rattle.expr_syntax.specs.Mentioned.{mentions}
use Rattle.operator_values.specs.Evaluated.{Evaluated}
use Rattle.eval_face.proofs.AgreementLaws.{agreeing_worlds}
use Rattle.eval_face.specs.Meaning.{mean}
use Rattle.eval_face.specs.World.{World}
use Rattle.eval_face.specs.Resolved.{resolved}
use Rattle.layer_buckets.specs.declared.cell.CellItem.TheVariants as items
use Rattle.listing_text.specs.Layout.{ListedValue}
use Rattle.style_layout.specs.Forms as forms
use Rattle.style_layout.specs.Forms.{Property, PropertyValue, Scene, literal, expression, legacy_function, token_text, outside, outcome_of, reads_feature}
use Rattle.style_layout.specs.Layers.{StyleLayer}
use Rattle.style_layout.specs.Outlines.{evaluated_value}
use Rattle.style_layout.specs.Shown.{LayerFeature, SourceTile, sort_key, zoom_at}
use Rattle.style_layout.specs.SortKeys.{key_of}
use Rattle.asked_cells.specs.Asked as asked
use Rattle.asked_cells.specs.Asked.{LayerCell, asked_by, cell_world, feature_at, feature_number, given_by, meaning, meaning_by, value_asked, values_asked}
use Rattle.asked_cells.specs.Counted.{KeptValues, is_asked}
use Rattle.asked_cells.specs.Expressions.{AreGiven, CellExpression, IsGivenBy, LayerExpressions, is_fixed, is_paint}
use Rattle.cell_listing.specs.KeptListing.{AreKnown, is_known, is_listed, kept_for, kept_key, kept_outcome, kept_value, kept_values, listed_by, outcome_by}
use Rattle.cell_listing.specs.Listable.{ReadsAsListed}
use Rattle.cell_listing.proofs.CellLaws.{asked_first, asked_then, own_asked}

-- what is listed for a property of a feature, or of its layer
abbrev pub outcome_in : Scene → Option LayerFeature → Property → Outcome
outcome_in scene feature p = outcome_of p (cell_world scene (zoom_at scene.zoom p.row.place) feature)

-- what is listed for a property is known from what is kept
abbrev pub Agrees : Scene → KeptValues → Option ℕ → Option LayerFeature → Property → Type 0
Agrees scene kept n feature p = (is_known p.value (kept_for kept n p) ≡ true) × (kept_outcome kept n p ≡ outcome_in scene feature p)

-- so it is with each that is listed with the feature, or with the layer
abbrev pub AgreesIfListed : Scene → KeptValues → Option ℕ → Option LayerFeature → Property → Type 0
AgreesIfListed scene kept n feature p = is_listed n p ≡ true → Agrees scene kept n feature p

abbrev pub AllAgree : Scene → KeptValues → Option ℕ → Option LayerFeature → List Property → Type 0
AllAgree scene kept n feature ps = AllByRecursion (AgreesIfListed scene kept n feature) ps

-- ---- a value

-- a value that is evaluated is listed by its cell
pub listed_evaluated : (value : PropertyValue) (fallback : Option Data) (kept : Option Evaluated)
    → listed_by (evaluated_value value) fallback kept ≡ outcome_by fallback kept
listed_evaluated (literal d) fallback kept = refl
listed_evaluated (expression t) fallback kept = refl
listed_evaluated (legacy_function r f) fallback kept = refl
listed_evaluated (token_text s) fallback kept = refl
listed_evaluated outside fallback kept = refl

pub known_evaluated : (value : PropertyValue) (kept : Option Evaluated) → is_known (evaluated_value value) kept ≡ is_some kept
known_evaluated (literal d) kept = refl
known_evaluated (expression t) kept = refl
known_evaluated (legacy_function r f) kept = refl
known_evaluated (token_text s) kept = refl
known_evaluated outside kept = refl

fixed_value : (value : PropertyValue) (row : RowData) (fallback : Option Data) (world : World) (o : Option Evaluated) → is_fixed value ≡ true
    → (is_known value o ≡ true) × (listed_by value fallback o ≡ forms.outcome_by value row fallback world)
fixed_value (literal d) row fallback world o fixed = (refl, refl)
fixed_value (expression t) row fallback world o fixed = absurd (true≢false (sym fixed))
fixed_value (legacy_function r f) row fallback world o fixed = absurd (true≢false (sym fixed))
fixed_value (token_text s) row fallback world o fixed = absurd (true≢false (sym fixed))
fixed_value outside row fallback world o fixed = (refl, refl)

given_value : (value : PropertyValue) (row : RowData) (fallback : Option Data) (world : World) (v : Evaluated)
    → forms.outcome_by value row fallback world ≡ resolved fallback v
    → (is_known value (Some v) ≡ true) × (listed_by value fallback (Some v) ≡ forms.outcome_by value row fallback world)
given_value (literal d) row fallback world v given = (refl, refl)
given_value (expression t) row fallback world v given = (refl, sym given)
given_value (legacy_function r f) row fallback world v given = (refl, sym given)
given_value (token_text s) row fallback world v given = (refl, sym given)
given_value outside row fallback world v given = (refl, refl)

pub zoom_by : (zoom : ℤ) (place : Place) → (if is_paint place then zoom else floor_of zoom) ≡ zoom_at zoom place
zoom_by zoom Paint = refl
zoom_by zoom Layout = refl

listed_same : (feature : Option LayerFeature) (p : Property) → is_listed (feature_number feature) p ≡ asked.is_listed feature p
listed_same (Some f) p = refl
listed_same None p = refl

module _ (scene : Scene) (tiles : List SourceTile) (layer : StyleLayer) (x : LayerExpressions) (kept : KeptValues) where
  -- a cell is kept with what it means
  abbrev pub IsKept : LayerCell → Type 0
  IsKept c = kept c ≡ Some (meaning scene tiles layer x c)

  module _ (feature : Option LayerFeature) (at : feature_at scene tiles layer (feature_number feature) ≡ feature) where
    means : (p : Property) (e : CellExpression) → x (items.Property p.row.number) ≡ Some e → e.paint ≡ is_paint p.row.place
        → meaning scene tiles layer x (record { feature = feature_number feature; item = items.Property p.row.number })
        ≡ mean e.term e.want [] (cell_world scene (zoom_at scene.zoom p.row.place) feature)
    means p e is paint =
        ap (λ o. meaning_by scene o (feature_at scene tiles layer (feature_number feature))) is
        ∙ (ap (given_by scene e) at
        ∙ ap (λ z. mean e.term e.want [] (cell_world scene z feature))
        (ap (λ b. if b then scene.zoom else floor_of scene.zoom) paint ∙ zoom_by scene.zoom p.row.place))

    value_agrees : (p : Property) (o : Option CellExpression) → x (items.Property p.row.number) ≡ o → IsGivenBy p o
        → ((c : LayerCell) → is_asked (asked_by scene o feature (items.Property p.row.number)) c ≡ true → IsKept c)
        → Agrees scene kept (feature_number feature) feature p
    value_agrees p None is given asks = fixed_value p.value p.row p.fallback
        (cell_world scene (zoom_at scene.zoom p.row.place) feature) (kept_for kept (feature_number feature) p) given
    value_agrees p (Some e) is given asks =
        let world = cell_world scene (zoom_at scene.zoom p.row.place) feature in
        let item = items.Property p.row.number in
        let here : kept_for kept (feature_number feature) p ≡ Some (mean e.term e.want [] world) =
        asks (record { feature = feature_number feature; item = item }) (own_asked scene e feature item)
        ∙ ap Some (means p e is given.0) in
        subst (λ (o : Option Evaluated). (is_known p.value o ≡ true) × (listed_by p.value p.fallback o ≡ outcome_in scene feature p))
        (sym here) (given_value p.value p.row p.fallback world (mean e.term e.want [] world) (given.1 world))

    -- What is listed is known, where the cells of values are kept that a listing asks.
    pub values_agree : (ps : List Property) → AreGiven x ps
        → ((c : LayerCell) → is_asked (values_asked x scene feature ps) c ≡ true → IsKept c)
        → AllAgree scene kept (feature_number feature) feature ps
    values_agree [] given asks = tt
    values_agree (p ∷ ps) given asks = (
      λ listed. value_agrees p (x (items.Property p.row.number)) refl given.0 (λ c is. asks c
          (asked_first (value_asked x scene feature p) (values_asked x scene feature ps) c
          (ap (λ b. is_asked (if b then asked_by scene (x (items.Property p.row.number)) feature (items.Property p.row.number) else []) c)
          (sym (listed_same feature p) ∙ listed) ∙ is))),
      values_agree ps given.1 (λ c is. asks c (asked_then (value_asked x scene feature p) (values_asked x scene feature ps) c is)),
    )

-- ---- values that are listed

module _ (scene : Scene) (kept : KeptValues) (n : Option ℕ) (feature : Option LayerFeature) where
  pub known_values : (ps : List Property) → AllAgree scene kept n feature ps → AreKnown kept n ps
  known_values [] agree = tt
  known_values (p ∷ ps) agree = (λ listed. (agree.0 listed).0, known_values ps agree.1)

  abbrev pub value_in : Property → ListedValue
  value_in p = record { name = p.row.name; outcome = outcome_in scene feature p }

  more_values : (p : Property) (ps : List Property) (listed : Bool)
      → (listed ≡ true → kept_outcome kept n p ≡ outcome_in scene feature p)
      → map (kept_value kept n) ps ≡ map value_in ps
      → map (kept_value kept n) (if listed then p ∷ ps else ps) ≡ map value_in (if listed then p ∷ ps else ps)
  more_values p ps true here later = λ i. record { name = p.row.name; outcome = here refl i } ∷ later i
  more_values p ps false here later = later

  pub listed_values : (ps : List Property) → AllAgree scene kept n feature ps
      → kept_values kept n ps ≡ map value_in (filter (is_listed n) ps)
  listed_values [] agree = refl
  listed_values (p ∷ ps) agree =
      more_values p (filter (is_listed n) ps) (is_listed n p) (λ listed. (agree.0 listed).1) (listed_values ps agree.1)

-- ---- keys

pub fixed_same : (value : PropertyValue) (row : RowData) (fallback : Option Data) (v w : World) → is_fixed value ≡ true
    → forms.outcome_by value row fallback v ≡ forms.outcome_by value row fallback w
fixed_same (literal d) row fallback v w fixed = refl
fixed_same (expression t) row fallback v w fixed = absurd (true≢false (sym fixed))
fixed_same (legacy_function r f) row fallback v w fixed = absurd (true≢false (sym fixed))
fixed_same (token_text s) row fallback v w fixed = absurd (true≢false (sym fixed))
fixed_same outside row fallback v w fixed = refl

first_false : (a b : Bool) → a || b ≡ false → a ≡ false
first_false false b h = refl
first_false true b h = h

second_false : (a b : Bool) → a || b ≡ false → b ≡ false
second_false false b h = h
second_false true b h = absurd (true≢false h)

module _ (scene : Scene) (f : LayerFeature) (p : Property) where
  -- a value that is listed with the layer is the same for each feature
  pub same_for_all : (o : Option CellExpression) → IsGivenBy p o → ReadsAsListed p o → p.is_per_feature ≡ false
      → outcome_in scene None p ≡ outcome_in scene (Some f) p
  same_for_all None given reads own = fixed_same p.value p.row p.fallback (cell_world scene (zoom_at scene.zoom p.row.place) None)
      (cell_world scene (zoom_at scene.zoom p.row.place) (Some f)) given
  same_for_all (Some e) given reads own =
      let all = cell_world scene (zoom_at scene.zoom p.row.place) None in
      let one = cell_world scene (zoom_at scene.zoom p.row.place) (Some f) in
      let none : reads_feature (mentions e.term) ≡ false = sym reads ∙ own in
      given.1 all
      ∙ (ap (resolved p.fallback) (agreeing_worlds e.term e.want [] all one (record {
        zoom = λ h. refl;
        feature = λ h. absurd (true≢false (sym h ∙ first_false (mentions e.term).feature (mentions e.term).state none));
        state = λ h. absurd (true≢false (sym h ∙ second_false (mentions e.term).feature (mentions e.term).state none));
        image = λ h s. refl;
        script = λ s. refl;
      })) ∙ sym (given.1 one))

  module _ (kept : KeptValues) (n : ℕ) where
    key_by : (own : Bool) → p.is_per_feature ≡ own → AgreesIfListed scene kept (Some n) (Some f) p → AgreesIfListed scene kept None None p
        → (own ≡ false → outcome_in scene None p ≡ outcome_in scene (Some f) p)
        → key_of (kept_outcome kept (if own then Some n else None) p) ≡ sort_key scene p f
    key_by true is feature all same = ap key_of (feature is).1
    key_by false is feature all same = ap key_of ((all (ap not is)).1 ∙ same refl)

    -- The key of a feature is what is kept of its own cell, or of the cell of the layer.
    pub key_agrees : (o : Option CellExpression) → IsGivenBy p o → ReadsAsListed p o → AgreesIfListed scene kept (Some n) (Some f) p
        → AgreesIfListed scene kept None None p → kept_key kept p n ≡ sort_key scene p f
    key_agrees o given reads feature all = key_by p.is_per_feature refl feature all (same_for_all o given reads)
