-- Operators of texts and lists.
use Rattle.std.proofs.Common.{◌≡◌, ℕ, ◌-◌, zero, suc, ℤ, pos, List, [], ◌∷◌, take, drop, Bool, true, false, Option, Some, None, Result, Ok, Err, if◌then◌else◌, refl}
use Rattle.std.proofs.lemmas.Bool.{and_parts, and_from}
use Rattle.std.specs.List.{slice_get}
use Rattle.std.specs.Prelude.{int_lt}
use Rattle.prop_values.specs.Data.{Data, boolean, number, text, list, Items, no_items, item, items_of, list_of}
use Rattle.prop_values.specs.Faults.{holds}
use Rattle.prop_values.specs.declared.fault.EvalFault.{EvalFault}
use Rattle.prop_values.specs.declared.fault.EvalFault.TheVariants as faults
use Rattle.prop_values.specs.declared.fault.FaultSet.{FaultSet}
use Rattle.prop_values.specs.declared.kinds.Item.{Item}
use Rattle.prop_values.specs.declared.kinds.Item.TheVariants as items
use Rattle.prop_values.specs.declared.kinds.Kind.{Kind}
use Rattle.prop_values.specs.declared.kinds.Kind.TheVariants as kinds
use Rattle.prop_values.specs.declared.kinds.Want.TheVariants as wants
use Rattle.property_tables.specs.Fitting.{is_item, are_items, has_count}
use Rattle.expr_syntax.specs.declared.expression.Operator.TheVariants as ops
use Rattle.expr_types.specs.Sequences.{item_kind, kind_of_items, index_faults, stretch_kind}
use Rattle.operator_values.specs.Sequences.{item_or_outside, item_at, item_of, at_of, found_from, in_of, place_value, place_found, place_found_from, index_of_of, size_of, length_of, stretch_of, stretch_between, slice_from, slice_between, slice_of}
use Rattle.operator_values.specs.Whole.{is_whole, units, index_in, held_place, place_in}
use Rattle.typing_laws.specs.OfKind.{is_of}
use Rattle.typing_laws.proofs.Sets.{Within, within_one}
use Rattle.typing_laws.proofs.Outcomes.{OutcomeOf}
use Rattle.typing_laws.proofs.Arguments.{is_text_or_list, Applies}
use Rattle.typing_laws.proofs.Shapes.{of_one, of_two, of_two_or_three}

-- the items of a list of items are of its item
item_is : (i : Item) (d : Data) → is_item i d ≡ true → is_of (item_kind i) d ≡ true
item_is items.Any d h = refl
item_is items.Boolean (boolean b) h = refl
item_is items.Boolean _ h = absurd (cc)
item_is items.Number (number z) h = refl
item_is items.Number _ h = absurd (cc)
item_is items.Text (text s) h = refl
item_is items.Text _ h = absurd (cc)

drop_items : (i : Item) (n : ℕ) (ds : Items) → are_items i ds ≡ true →
    are_items i (items_of (drop n (list_of ds))) ≡ true
drop_items i zero no_items h = refl
drop_items i zero (item d ds) h = and_from _ _ ((and_parts _ _ h).0)
    (drop_items i zero ds ((and_parts _ _ h).1))
drop_items i (suc n) no_items h = refl
drop_items i (suc n) (item d ds) h = drop_items i n ds ((and_parts _ _ h).1)

take_items : (i : Item) (n : ℕ) (ds : List Data) → are_items i (items_of ds) ≡ true →
    are_items i (items_of (take n ds)) ≡ true
take_items i zero [] h = refl
take_items i zero (d ∷ ds) h = refl
take_items i (suc n) [] h = refl
take_items i (suc n) (d ∷ ds) h = and_from _ _ ((and_parts _ _ h).0) (take_items i n ds ((and_parts _ _ h).1))

module _ (S : FaultSet) where
  -- ---- indexes

  abbrev IndexIn : Result ℕ EvalFault → Type 0
  IndexIn (Ok n) = Unit {0}
  IndexIn (Err f) = holds S f ≡ true

  outside_if : (b : Bool) (n : ℕ) → holds S faults.IndexOutside ≡ true →
      IndexIn (if b then Err faults.IndexOutside else Ok n)
  outside_if true n h = h
  outside_if false n h = tt

  whole_if : (b : Bool) (r : Result ℕ EvalFault) → holds S faults.IndexNotWhole ≡ true → IndexIn r →
      IndexIn (if b then r else Err faults.IndexNotWhole)
  whole_if true r h g = g
  whole_if false r h g = h

  index_ok : (z : ℤ) → Within S index_faults → IndexIn (index_in z)
  index_ok z all =
      whole_if (is_whole z) (if int_lt z (pos 0) then Err faults.IndexOutside else Ok (units z))
      (all faults.IndexNotWhole refl)
      (outside_if (int_lt z (pos 0)) (units z) (all faults.IndexOutside refl))

  place_ok : (n : ℕ) (z : ℤ) → holds S faults.IndexNotWhole ≡ true → IndexIn (place_in n z)
  place_ok n z h = whole_if (is_whole z) (Ok (held_place n z)) h tt

  -- ---- `at`

  item_ok : (i : Item) (ds : Items) (k : ℕ) → are_items i ds ≡ true → holds S faults.IndexOutside ≡ true →
      OutcomeOf S wants.Any (item_kind i) (item_or_outside (slice_get (list_of ds) k))
  item_ok i no_items k h f = f
  item_ok i (item d ds) zero h f = (refl, item_is i d ((and_parts _ _ h).0))
  item_ok i (item d ds) (suc k) h f = item_ok i ds k ((and_parts _ _ h).1) f

  any_item : (o : Option Data) → holds S faults.IndexOutside ≡ true →
      OutcomeOf S wants.Any kinds.Any (item_or_outside o)
  any_item (Some d) h = (refl, refl)
  any_item None h = h

  at_index : (i : Item) (r : Result ℕ EvalFault) (ds : Items) → IndexIn r → are_items i ds ≡ true →
      holds S faults.IndexOutside ≡ true → OutcomeOf S wants.Any (item_kind i) (item_at r (list_of ds))
  at_index i (Ok k) ds q h f = item_ok i ds k h f
  at_index i (Err e) ds q h f = q

  any_index : (r : Result ℕ EvalFault) (ds : Items) → IndexIn r → holds S faults.IndexOutside ≡ true →
      OutcomeOf S wants.Any kinds.Any (item_at r (list_of ds))
  any_index (Ok k) ds q f = any_item (slice_get (list_of ds) k) f
  any_index (Err e) ds q f = q

  at_list : (j : Kind) (z : ℤ) (ds : Items) → is_of j (list ds) ≡ true → Within S index_faults →
      OutcomeOf S wants.Any (kind_of_items j) (item_of z (list ds))
  at_list (kinds.List i n) z ds h all = at_index i (index_in z) ds (index_ok z all)
      ((and_parts (has_count n ds) (are_items i ds) h).1) (all faults.IndexOutside refl)
  at_list _ z ds h all = any_index (index_in z) ds (index_ok z all) (all faults.IndexOutside refl)

  at_two : (j : Kind) (d e : Data) → is_of kinds.Number d ≡ true →
      is_of (kinds.List items.Any None) e ≡ true → is_of j e ≡ true → Within S index_faults →
      OutcomeOf S wants.Any (kind_of_items j) (at_of (d ∷ e ∷ []))
  at_two j (number z) (list ds) h g q all = at_list j z ds q all
  at_two j (number z) _ h g q all = absurd (cc)
  at_two j _ e h g q all = absurd (cc)

  pub at_ok : Applies S ops.At (λ world ds. at_of ds)
  at_ok = of_two S ops.At (λ world ds. at_of ds) (λ bound m s. s.arity)
      (λ w world l l' j j' d d' g g' none all. at_two j' d d' g.wanted g'.wanted g'.kind all)

  -- ---- `in` and `index-of`

  in_two : (d e : Data) → is_text_or_list e ≡ true → OutcomeOf S wants.Any kinds.Boolean (in_of (d ∷ e ∷ []))
  in_two d (text s) h = (refl, refl)
  in_two d (list ds) h = (refl, refl)
  in_two d _ h = absurd (cc)

  pub in_ok : Applies S ops.In (λ world ds. in_of ds)
  in_ok = of_two S ops.In (λ world ds. in_of ds) (λ bound m s. s.arity)
      (λ w world l l' j j' d d' g g' none all. in_two d d' g'.formed)

  place_of_value : (p : Option ℕ) → OutcomeOf S wants.Any kinds.Number (Ok (place_value p))
  place_of_value (Some n) = (refl, refl)
  place_of_value None = (refl, refl)

  place_in_sequence : (d e : Data) (from : ℕ) → is_text_or_list e ≡ true →
      OutcomeOf S wants.Any kinds.Number (place_found (found_from d e from))
  place_in_sequence d (text s) from h = place_of_value _
  place_in_sequence d (list ds) from h = place_of_value _
  place_in_sequence d _ from h = absurd (cc)

  place_after : (d e : Data) (r : Result ℕ EvalFault) → IndexIn r → is_text_or_list e ≡ true →
      OutcomeOf S wants.Any kinds.Number (place_found_from d e r)
  place_after d e (Ok from) q h = place_in_sequence d e from h
  place_after d e (Err f) q h = q

  place_three : (d e f : Data) → is_text_or_list e ≡ true → is_of kinds.Number f ≡ true →
      Within S index_faults → OutcomeOf S wants.Any kinds.Number (index_of_of (d ∷ e ∷ f ∷ []))
  place_three d e (number z) h g all = place_after d e (index_in z) (index_ok z all) h
  place_three d e _ h g all = absurd (cc)

  pub index_of_ok : Applies S ops.IndexOf (λ world ds. index_of_of ds)
  index_of_ok = of_two_or_three S ops.IndexOf (λ world ds. index_of_of ds) (λ bound m s. s.arity)
      (λ w world l l' j j' d d' g g' none all. place_in_sequence d d' 0 g'.formed)
      (λ w world l l' l'' j j' j'' d d' d'' g g' g'' none all. place_three d d' d'' g'.formed g''.wanted all)

  -- ---- `length` and `slice`

  length_one : (d : Data) → is_text_or_list d ≡ true → OutcomeOf S wants.Any kinds.Number (length_of (d ∷ []))
  length_one (text s) h = (refl, refl)
  length_one (list ds) h = (refl, refl)
  length_one _ h = absurd (cc)

  pub length_ok : Applies S ops.Length (λ world ds. length_of ds)
  length_ok = of_one S ops.Length (λ world ds. length_of ds) (λ bound m s. s.arity)
      (λ w world l j d g none all. length_one d g.formed)

  stretch_list : (j : Kind) (ds : Items) (from to : ℕ) → is_of j (list ds) ≡ true →
      OutcomeOf S wants.Any (stretch_kind j) (stretch_of (list ds) from to)
  stretch_list (kinds.List i n) ds from to h = (
    refl,
    take_items i (to - from) (drop from (list_of ds))
        (drop_items i from ds ((and_parts (has_count n ds) (are_items i ds) h).1)),
  )
  stretch_list kinds.Any ds from to h = (refl, refl)
  stretch_list _ ds from to h = absurd (cc)

  stretch_text : (j : Kind) (s : List ℕ) (from to : ℕ) → is_of j (text s) ≡ true →
      OutcomeOf S wants.Any (stretch_kind j) (stretch_of (text s) from to)
  stretch_text kinds.Text s from to h = (refl, refl)
  stretch_text (kinds.List i n) s from to h = absurd (cc)
  stretch_text _ s from to h = (refl, refl)

  stretch_ok : (j : Kind) (d : Data) (from to : ℕ) → is_text_or_list d ≡ true → is_of j d ≡ true →
      OutcomeOf S wants.Any (stretch_kind j) (stretch_of d from to)
  stretch_ok j (text s) from to h g = stretch_text j s from to g
  stretch_ok j (list ds) from to h g = stretch_list j ds from to g
  stretch_ok j _ from to h g = absurd (cc)

  between_ok : (j : Kind) (d : Data) (a b : Result ℕ EvalFault) → IndexIn a → IndexIn b →
      is_text_or_list d ≡ true → is_of j d ≡ true →
      OutcomeOf S wants.Any (stretch_kind j) (stretch_between d a b)
  between_ok j d (Ok from) (Ok to) p q h g = stretch_ok j d from to h g
  between_ok j d (Ok from) (Err f) p q h g = q
  between_ok j d (Err f) b p q h g = p

  abbrev SizeIn : Result ℕ EvalFault → Type 0
  SizeIn (Ok n) = Unit {0}
  SizeIn (Err f) = ⊥

  size_ok : (d : Data) → is_text_or_list d ≡ true → SizeIn (size_of d)
  size_ok (text s) h = tt
  size_ok (list ds) h = tt
  size_ok _ h = absurd (cc)

  from_ok : (j : Kind) (d : Data) (n : Result ℕ EvalFault) (z : ℤ) → SizeIn n →
      holds S faults.IndexNotWhole ≡ true → is_text_or_list d ≡ true → is_of j d ≡ true →
      OutcomeOf S wants.Any (stretch_kind j) (slice_from d n z)
  from_ok j d (Ok n) z s f h g = between_ok j d (place_in n z) (Ok n) (place_ok n z f) tt h g
  from_ok j d (Err e) z s f h g = absurd s

  from_to_ok : (j : Kind) (d : Data) (n : Result ℕ EvalFault) (z y : ℤ) → SizeIn n →
      holds S faults.IndexNotWhole ≡ true → is_text_or_list d ≡ true → is_of j d ≡ true →
      OutcomeOf S wants.Any (stretch_kind j) (slice_between d n z y)
  from_to_ok j d (Ok n) z y s f h g = between_ok j d (place_in n z) (place_in n y) (place_ok n z f)
      (place_ok n y f) h g
  from_to_ok j d (Err e) z y s f h g = absurd s

  slice_two : (j : Kind) (d e : Data) → is_text_or_list d ≡ true → is_of j d ≡ true →
      is_of kinds.Number e ≡ true → holds S faults.IndexNotWhole ≡ true →
      OutcomeOf S wants.Any (stretch_kind j) (slice_of (d ∷ e ∷ []))
  slice_two j d (number z) h g q f = from_ok j d (size_of d) z (size_ok d h) f h g
  slice_two j d _ h g q f = absurd (cc)

  slice_three : (j : Kind) (d e e' : Data) → is_text_or_list d ≡ true → is_of j d ≡ true →
      is_of kinds.Number e ≡ true → is_of kinds.Number e' ≡ true → holds S faults.IndexNotWhole ≡ true →
      OutcomeOf S wants.Any (stretch_kind j) (slice_of (d ∷ e ∷ e' ∷ []))
  slice_three j d (number z) (number y) h g q r f = from_to_ok j d (size_of d) z y (size_ok d h) f h g
  slice_three j d (number z) _ h g q r f = absurd (cc)
  slice_three j d _ e' h g q r f = absurd (cc)

  pub slice_ok : Applies S ops.Slice (λ world ds. slice_of ds)
  slice_ok = of_two_or_three S ops.Slice (λ world ds. slice_of ds) (λ bound m s. s.arity)
      (λ w world l l' j j' d d' g g' none all. slice_two j d d' g.formed g.kind g'.wanted
      (within_one S faults.IndexNotWhole all))
      (λ w world l l' l'' j j' j'' d d' d'' g g' g'' none all. slice_three j d d' d'' g.formed g.kind
      g'.wanted g''.wanted (within_one S faults.IndexNotWhole all))
