-- Operators whose value depends on the values of their arguments alone, or that look something up.
use Rattle.std.proofs.Common.{◌≡◌, ℕ, List, [], ◌∷◌, Bool, true, false, not, ◌&&◌, nat_eq, Option, Some, None, Ok, Err, if◌then◌else◌, refl}
use Rattle.std.proofs.lemmas.Bool.{eq-eqb, both_ways}
use Rattle.fixed_num.specs.declared.color.Color.{Color}
use Rattle.prop_values.specs.Data.{Data, null, boolean, number, text, color, list, map, Items}
use Rattle.prop_values.specs.Faults.{holds, no_faults}
use Rattle.prop_values.specs.declared.fault.EvalFault.TheVariants as faults
use Rattle.prop_values.specs.declared.fault.FaultSet.{FaultSet}
use Rattle.prop_values.specs.declared.kinds.Item.{Item}
use Rattle.prop_values.specs.declared.kinds.Item.TheVariants as items
use Rattle.prop_values.specs.declared.kinds.Kind.{Kind}
use Rattle.prop_values.specs.declared.kinds.Kind.TheVariants as kinds
use Rattle.prop_values.specs.declared.kinds.Want.TheVariants as wants
use Rattle.property_tables.specs.Fitting.{fit_list, are_items, has_count}
use Rattle.expr_syntax.specs.Operators.{item_or_any}
use Rattle.expr_syntax.specs.declared.expression.Operator.TheVariants as ops
use Rattle.expr_types.specs.Assertions.{own_array}
use Rattle.expr_types.specs.Fits.{fits, is_always}
use Rattle.expr_types.specs.Own.{faults_if}
use Rattle.expr_types.specs.declared.fits.Fit.{Fit}
use Rattle.expr_types.specs.declared.fits.Fit.TheVariants.{Always, Maybe, Never}
use Rattle.operator_values.specs.Colors.{color_or_range, rgba_of, parts_of}
use Rattle.operator_values.specs.Conversions.{truth_of, text_of, kind_of, negation_of, color_of_parts}
use Rattle.operator_values.specs.Evaluated.{Evaluated}
use Rattle.operator_values.specs.Texts.{concat_of}
use Rattle.eval_face.specs.Lookups.{get_of, has_of, state_at, image_of, script_of}
use Rattle.eval_face.specs.Rules.{array_of}
use Rattle.eval_face.specs.World.{World}
use Rattle.typing_laws.specs.OfKind.{is_of}
use Rattle.typing_laws.proofs.Sets.{Within, holds_none, within_one}
use Rattle.typing_laws.proofs.Outcomes.{OutcomeOf, OwnIn, FitIn, fit_ok}
use Rattle.typing_laws.proofs.Arguments.{IsSoundNode, Applies}
use Rattle.typing_laws.proofs.Shapes.{of_one, of_one_or_two, of_three_or_four}

module _ (S : FaultSet) where
  -- ---- conversions

  pub truth_ok : Applies S ops.ToBoolean (λ world ds. truth_of ds)
  truth_ok = of_one S ops.ToBoolean (λ world ds. truth_of ds) (λ bound m s. s.arity)
      (λ w world l j d g none all. (refl, refl))

  pub shown_ok : Applies S ops.ToString (λ world ds. text_of ds)
  shown_ok = of_one S ops.ToString (λ world ds. text_of ds) (λ bound m s. s.arity)
      (λ w world l j d g none all. (refl, refl))

  pub form_ok : Applies S ops.TypeOf (λ world ds. kind_of ds)
  form_ok = of_one S ops.TypeOf (λ world ds. kind_of ds) (λ bound m s. s.arity)
      (λ w world l j d g none all. (refl, refl))

  negation : (d : Data) → is_of kinds.Boolean d ≡ true →
      OutcomeOf S wants.Any kinds.Boolean (negation_of (d ∷ []))
  negation (boolean b) h = (refl, refl)
  negation _ h = absurd (cc)

  pub not_ok : Applies S ops.Not (λ world ds. negation_of ds)
  not_ok = of_one S ops.Not (λ world ds. negation_of ds) (λ bound m s. s.arity)
      (λ w world l j d g none all. negation d g.wanted)

  pub concat_ok : Applies S ops.Concat (λ world ds. concat_of ds)
  concat_ok bound w world ls js ds s h = λ none all. (refl, refl)

  -- ---- `array`

  list_if : (i : Item) (n : Option ℕ) (ds : Items) (b : Bool) → (has_count n ds && are_items i ds) ≡ b →
      holds S faults.WrongType ≡ true →
      OutcomeOf S wants.Any (kinds.List i n) (if b then Ok (list ds) else Err faults.WrongType)
  list_if i n ds true q h = (refl, q)
  list_if i n ds false q h = h

  list_or : (i : Item) (n : Option ℕ) (d : Data) → holds S faults.WrongType ≡ true →
      OutcomeOf S wants.Any (kinds.List i n) (fit_list i n d)
  list_or i n (list ds) h = list_if i n ds (has_count n ds && are_items i ds) refl h
  list_or i n null h = h
  list_or i n (boolean b) h = h
  list_or i n (number z) h = h
  list_or i n (text s) h = h
  list_or i n (color c) h = h
  list_or i n (map ps) h = h

  wanted_list : (i : Item) (n : Option ℕ) (k : Kind) (o : Evaluated) → OutcomeOf S (wants.List i n) k o →
      OutcomeOf S wants.Any (kinds.List i n) o
  wanted_list i n k (Ok d) h = (refl, h.0)
  wanted_list i n k (Err f) h = h

  none_within : Within S no_faults
  none_within f h = absurd (both_ways (holds no_faults f) (holds_none f) h)

  array_by : (f : Fit) (i : Item) (n : Option ℕ) (k : Kind) (d : Data) →
      FitIn S f (wants.List i n) k (fit_list i n d) →
      Within S (faults_if (not (is_always f)) faults.WrongType) →
      OutcomeOf S wants.Any (kinds.List i n) (fit_list i n d)
  array_by Always i n k d h all = wanted_list i n _ (fit_list i n d) (h none_within)
  array_by Maybe i n k d h all = list_or i n d (within_one S faults.WrongType all)
  array_by Never i n k d h all = list_or i n d (within_one S faults.WrongType all)

  array_one : (i : Item) (n : Option ℕ) (k : Kind) (d : Data) → is_of k d ≡ true →
      OwnIn S wants.Any (own_array i n k) (fit_list i n d)
  array_one i n k d h = λ none all. array_by (fits k (wants.List i n)) i n k d
      (fit_ok S (wants.List i n) k d h) all

  array_rows : (i : Option Item) (n : Option ℕ) (bound : List (List ℕ)) (m : ℕ) →
      IsSoundNode bound (ops.Array i n) m → nat_eq m 1 ≡ true
  array_rows None None bound m s = eq-eqb m 1 s.parts
  array_rows None (Some c) bound m s = absurd s.parts
  array_rows (Some i) n bound m s = eq-eqb m 1 s.parts

  array_given : (i : Option Item) (n : Option ℕ) (k : Kind) (d : Data) → is_of k d ≡ true →
      OwnIn S wants.Any (own_array (item_or_any i) n k) (fit_list (item_or_any i) n d)
  array_given None n k d h = array_one items.Any n k d h
  array_given (Some i) n k d h = array_one i n k d h

  pub array_ok : (i : Option Item) (n : Option ℕ) → Applies S (ops.Array i n) (λ world ds. array_of i n ds)
  array_ok i n = of_one S (ops.Array i n) (λ world ds. array_of i n ds) (array_rows i n)
      (λ w world l j d g. array_given i n j d g.kind)

  -- ---- look-ups

  get_one : (world : World) (d : Data) → is_of kinds.Text d ≡ true →
      OutcomeOf S wants.Any kinds.Any (get_of world.properties (d ∷ []))
  get_one world (text s) h = (refl, refl)
  get_one world _ h = absurd (cc)

  get_two : (world : World) (d e : Data) → is_of kinds.Text d ≡ true → is_of kinds.Object e ≡ true →
      OutcomeOf S wants.Any kinds.Any (get_of world.properties (d ∷ e ∷ []))
  get_two world (text s) (map ps) h g = (refl, refl)
  get_two world (text s) _ h g = absurd (cc)
  get_two world _ e h g = absurd (cc)

  pub get_ok : Applies S ops.Get (λ world. get_of world.properties)
  get_ok = of_one_or_two S ops.Get (λ world. get_of world.properties) (λ bound m s. s.arity)
      (λ w world l j d g none all. get_one world d g.wanted)
      (λ w world l l' j j' d d' g g' none all. get_two world d d' g.wanted g'.wanted)

  has_one : (world : World) (d : Data) → is_of kinds.Text d ≡ true →
      OutcomeOf S wants.Any kinds.Boolean (has_of world.properties (d ∷ []))
  has_one world (text s) h = (refl, refl)
  has_one world _ h = absurd (cc)

  has_two : (world : World) (d e : Data) → is_of kinds.Text d ≡ true → is_of kinds.Object e ≡ true →
      OutcomeOf S wants.Any kinds.Boolean (has_of world.properties (d ∷ e ∷ []))
  has_two world (text s) (map ps) h g = (refl, refl)
  has_two world (text s) _ h g = absurd (cc)
  has_two world _ e h g = absurd (cc)

  pub has_ok : Applies S ops.Has (λ world. has_of world.properties)
  has_ok = of_one_or_two S ops.Has (λ world. has_of world.properties) (λ bound m s. s.arity)
      (λ w world l j d g none all. has_one world d g.wanted)
      (λ w world l l' j j' d d' g g' none all. has_two world d d' g.wanted g'.wanted)

  state_one : (world : World) (d : Data) → is_of kinds.Text d ≡ true →
      OutcomeOf S wants.Any kinds.Any (state_at world.state (d ∷ []))
  state_one world (text s) h = (refl, refl)
  state_one world _ h = absurd (cc)

  pub state_ok : Applies S ops.FeatureState (λ world. state_at world.state)
  state_ok = of_one S ops.FeatureState (λ world. state_at world.state) (λ bound m s. s.arity)
      (λ w world l j d g none all. state_one world d g.wanted)

  image_if : (b : Bool) (s : List ℕ) → OutcomeOf S wants.Any kinds.Image (Ok (if b then text s else null))
  image_if true s = (refl, refl)
  image_if false s = (refl, refl)

  image_one : (world : World) (d : Data) → is_of kinds.Text d ≡ true →
      OutcomeOf S wants.Any kinds.Image (image_of world.has_image (d ∷ []))
  image_one world (text s) h = image_if (world.has_image s) s
  image_one world _ h = absurd (cc)

  pub named_image_ok : Applies S ops.Image (λ world. image_of world.has_image)
  named_image_ok = of_one S ops.Image (λ world. image_of world.has_image) (λ bound m s. s.arity)
      (λ w world l j d g none all. image_one world d g.wanted)

  script_one : (world : World) (d : Data) → is_of kinds.Text d ≡ true →
      OutcomeOf S wants.Any kinds.Boolean (script_of world.is_supported (d ∷ []))
  script_one world (text s) h = (refl, refl)
  script_one world _ h = absurd (cc)

  pub script_ok : Applies S ops.IsSupportedScript (λ world. script_of world.is_supported)
  script_ok = of_one S ops.IsSupportedScript (λ world. script_of world.is_supported) (λ bound m s. s.arity)
      (λ w world l j d g none all. script_one world d g.wanted)

  -- ---- colors

  in_range : (c : Option Color) → holds S faults.ColorRange ≡ true →
      OutcomeOf S wants.Any kinds.Color (color_or_range c)
  in_range (Some c) h = (refl, refl)
  in_range None h = h

  three_parts : (d d' d'' : Data) → is_of kinds.Number d ≡ true → is_of kinds.Number d' ≡ true →
      is_of kinds.Number d'' ≡ true → holds S faults.ColorRange ≡ true →
      OutcomeOf S wants.Any kinds.Color (rgba_of (d ∷ d' ∷ d'' ∷ []))
  three_parts (number r) (number g) (number b) h h' h'' f = in_range _ f
  three_parts (number r) (number g) _ h h' h'' f = absurd (cc)
  three_parts (number r) _ d'' h h' h'' f = absurd (cc)
  three_parts _ d' d'' h h' h'' f = absurd (cc)

  four_parts : (d d' d'' e : Data) → is_of kinds.Number d ≡ true → is_of kinds.Number d' ≡ true →
      is_of kinds.Number d'' ≡ true → is_of kinds.Number e ≡ true → holds S faults.ColorRange ≡ true →
      OutcomeOf S wants.Any kinds.Color (rgba_of (d ∷ d' ∷ d'' ∷ e ∷ []))
  four_parts (number r) (number g) (number b) (number a) h h' h'' h3 f = in_range (color_of_parts r g b a) f
  four_parts (number r) (number g) (number b) _ h h' h'' h3 f = absurd (cc)
  four_parts (number r) (number g) _ e h h' h'' h3 f = absurd (cc)
  four_parts (number r) _ d'' e h h' h'' h3 f = absurd (cc)
  four_parts _ d' d'' e h h' h'' h3 f = absurd (cc)

  pub rgb_ok : Applies S ops.Rgb (λ world ds. rgba_of ds)
  rgb_ok = of_three_or_four S ops.Rgb (λ world ds. rgba_of ds) (λ bound m s. s.arity)
      (λ w world l l' l'' j j' j'' d d' d'' g g' g'' none all. three_parts d d' d'' g.wanted g'.wanted
      g''.wanted (within_one S faults.ColorRange all))
      (λ w world l l' l'' l3 j j' j'' j3 d d' d'' d3 g g' g'' g3 none all. four_parts d d' d'' d3 g.wanted
      g'.wanted g''.wanted g3.wanted (within_one S faults.ColorRange all))

  pub rgba_ok : Applies S ops.Rgba (λ world ds. rgba_of ds)
  rgba_ok = of_three_or_four S ops.Rgba (λ world ds. rgba_of ds) (λ bound m s. s.arity)
      (λ w world l l' l'' j j' j'' d d' d'' g g' g'' none all. three_parts d d' d'' g.wanted g'.wanted
      g''.wanted (within_one S faults.ColorRange all))
      (λ w world l l' l'' l3 j j' j'' j3 d d' d'' d3 g g' g'' g3 none all. four_parts d d' d'' d3 g.wanted
      g'.wanted g''.wanted g3.wanted (within_one S faults.ColorRange all))

  parts_one : (d : Data) → is_of kinds.Color d ≡ true →
      OutcomeOf S wants.Any (kinds.List items.Number (Some 4)) (parts_of (d ∷ []))
  parts_one (color c) h = (refl, refl)
  parts_one _ h = absurd (cc)

  pub parts_ok : Applies S ops.ToRgba (λ world ds. parts_of ds)
  parts_ok = of_one S ops.ToRgba (λ world ds. parts_of ds) (λ bound m s. s.arity)
      (λ w world l j d g none all. parts_one d g.wanted)
