-- The value between two outputs of an interpolation.
use Rattle.std.proofs.Common.{◌≡◌, ℕ, ◌+◌, ◌*◌, ◌≤◌, ℤ, List, Bool, true, false, ◌&&◌, nat_le, Some, Result, Ok, Err, if◌then◌else◌, refl, arith, subst, ◌⊎◌, inl, inr}
use Rattle.std.specs.Prelude.{unsigned_abs, ◌-ℤ◌, ◌*ℤ◌, ◌≤ℤ◌}
use Rattle.std.proofs.lemmas.Bool.{eqb-true, eq-eqb, leb-true, le-leb, and_parts, and_from}
use Rattle.std.proofs.lemmas.Int.{ints, unsigned_abs-mul}
use Rattle.std.proofs.lemmas.Nat.{mul-le}
use Rattle.fixed_num.specs.declared.fixed.Arith.{Arith}
use Rattle.fixed_num.specs.declared.fixed.Arith.TheVariants as arith_faults
use Rattle.prop_values.specs.Data.{Data, null, boolean, number, text, color, list, map, Items, no_items, item}
use Rattle.prop_values.specs.Faults.{holds, fault_of}
use Rattle.prop_values.specs.declared.fault.EvalFault.{EvalFault}
use Rattle.prop_values.specs.declared.fault.EvalFault.TheVariants as faults
use Rattle.prop_values.specs.declared.fault.FaultSet.{FaultSet}
use Rattle.prop_values.specs.declared.kinds.Item.TheVariants as items
use Rattle.prop_values.specs.declared.kinds.Kind.{Kind}
use Rattle.prop_values.specs.declared.kinds.Kind.TheVariants as kinds
use Rattle.prop_values.specs.declared.kinds.Want.TheVariants as wants
use Rattle.property_tables.specs.Fitting.{are_items, has_count, item_count}
use Rattle.interpolate_fixed.specs.Linear.{farthest, linear_of}
use Rattle.expr_types.specs.Ramping.{is_ramp_kind, is_near, are_items_near, are_near}
use Rattle.operator_values.specs.Arithmetic.{the_number}
use Rattle.operator_values.specs.Evaluated.{Evaluated}
use Rattle.operator_values.specs.Ramps.{and_pair, pairs_in, and_item, items_between, the_list, list_between, between_of}
use Rattle.eval_face.specs.Branches.{between_values}
use Rattle.typing_laws.specs.OfKind.{is_of}
use Rattle.typing_laws.proofs.Outcomes.{OutcomeOf}

-- ---- a step that is near does not pass the bound

near_passes : (x x0 a x1 b : ℤ) → is_near x0 a x1 b ≡ true → x0 ≤ℤ x → x ≤ℤ x1 →
    nat_le (unsigned_abs ((b -ℤ a) *ℤ (x -ℤ x0))) farthest ≡ true
near_passes x x0 a x1 b near from to =
    let way : unsigned_abs (x -ℤ x0) ≤ unsigned_abs (x1 -ℤ x0) = omega (arith, ints, from, to) in
    let whole : unsigned_abs (b -ℤ a) * unsigned_abs (x1 -ℤ x0) ≤ farthest = leb-true
    (unsigned_abs (b -ℤ a) * unsigned_abs (x1 -ℤ x0)) farthest near in
    let part : unsigned_abs (b -ℤ a) * unsigned_abs (x -ℤ x0) ≤ unsigned_abs (b -ℤ a) * unsigned_abs
    (x1 -ℤ x0) = mul-le (unsigned_abs (b -ℤ a)) (unsigned_abs (x -ℤ x0)) (unsigned_abs (b -ℤ a))
    (unsigned_abs (x1 -ℤ x0)) (omega arith) way in
    let small : unsigned_abs ((b -ℤ a) *ℤ (x -ℤ x0)) ≤ farthest = rw (unsigned_abs-mul (b -ℤ a) (x -ℤ x0))
    (omega (arith, whole, part)) in
    le-leb (unsigned_abs ((b -ℤ a) *ℤ (x -ℤ x0))) farthest small

-- the numbers of two lists of one length
abbrev AreLike : Items → Items → Type 0
AreLike no_items no_items = Unit {0}
AreLike (item d ds) (item e es) = (is_of kinds.Number d ≡ true) × (is_of kinds.Number e ≡ true) × AreLike ds
    es
AreLike _ _ = ⊥

number_item : (d : Data) (ds : Items) → are_items items.Number (item d ds) ≡ true →
    (is_of kinds.Number d ≡ true) × (are_items items.Number ds ≡ true)
number_item (number z) ds h = (refl, h)
number_item _ ds h = absurd (cc)

are_like : (n : ℕ) (ds es : Items) → item_count ds ≡ n → item_count es ≡ n →
    are_items items.Number ds ≡ true → are_items items.Number es ≡ true → AreLike ds es
are_like n no_items no_items p q h g = tt
are_like n (item d ds) (item e es) p q h g =
    let a = number_item d ds h in let b = number_item e es g in
    (a.0, b.0, are_like (item_count ds) ds es refl (omega (arith, p, q)) a.1 b.1)
are_like n no_items (item e es) p q h g = absurd (omega (arith, p, q))
are_like n (item d ds) no_items p q h g = absurd (omega (arith, p, q))

module _ (S : FaultSet) where
  -- ---- between two values

  abbrev pub LineIn : Result ℤ Arith → Type 0
  LineIn (Ok z) = Unit {0}
  LineIn (Err f) = holds S (fault_of f) ≡ true

  line_by : (b : Bool) (z : ℤ) → (holds S faults.Overflow ≡ true) ⊎ (b ≡ true) →
      LineIn (if b then Ok z else Err arith_faults.Overflow)
  line_by true z h = tt
  line_by false z (inl h) = h
  line_by false z (inr h) = absurd (cc)

  -- a place between two inputs
  abbrev pub IsWithin : ℤ → ℤ → ℤ → Type 0
  IsWithin x x0 x1 = (x0 ≤ℤ x) × (x ≤ℤ x1)

  line_ok : (x x0 a x1 b : ℤ) →
      (holds S faults.Overflow ≡ true) ⊎ ((is_near x0 a x1 b ≡ true) × IsWithin x x0 x1) →
      LineIn (linear_of x x0 a x1 b)
  line_ok x x0 a x1 b (inl h) = line_by (nat_le (unsigned_abs ((b -ℤ a) *ℤ (x -ℤ x0))) farthest) _ (inl h)
  line_ok x x0 a x1 b (inr h) = line_by (nat_le (unsigned_abs ((b -ℤ a) *ℤ (x -ℤ x0))) farthest) _
      (inr (near_passes x x0 a x1 b h.0 h.1.0 h.1.1))

  -- numbers of two lists, side by side
  abbrev ItemsIn : ℕ → Result Items EvalFault → Type 0
  ItemsIn n (Ok ds) = (item_count ds ≡ n) × (are_items items.Number ds ≡ true)
  ItemsIn n (Err f) = holds S f ≡ true

  abbrev PairsIn : ℤ → ℤ → ℤ → ℕ → Result (List (ℤ × ℤ)) EvalFault → Type 0
  PairsIn x x0 x1 n (Ok ps) = ItemsIn n (items_between x x0 x1 ps)
  PairsIn x x0 x1 n (Err f) = ⊥

  and_item_ok : (n : ℕ) (r : Result ℤ Arith) (rest : Result Items EvalFault) → LineIn r → ItemsIn n rest →
      ItemsIn (1 + n) (and_item r rest)
  and_item_ok n (Ok z) (Ok ds) h g = (let q = g.0 in omega (arith, q), g.1)
  and_item_ok n (Ok z) (Err f) h g = g
  and_item_ok n (Err e) rest h g = h

  pair_step : (x x0 x1 a b : ℤ) (n : ℕ) (r : Result (List (ℤ × ℤ)) EvalFault) →
      LineIn (linear_of x x0 a x1 b) → PairsIn x x0 x1 n r → PairsIn x x0 x1 (1 + n) (and_pair a b r)
  pair_step x x0 x1 a b n (Ok ps) h g = and_item_ok n (linear_of x x0 a x1 b) (items_between x x0 x1 ps) h g
  pair_step x x0 x1 a b n (Err f) h g = absurd g

  near_head : (A W : Type 0) (a b : Bool) → A ⊎ (((a && b) ≡ true) × W) → A ⊎ ((a ≡ true) × W)
  near_head A W a b (inl h) = inl h
  near_head A W a b (inr h) = inr ((and_parts a b h.0).0, h.1)

  near_tail : (A W : Type 0) (a b : Bool) → A ⊎ (((a && b) ≡ true) × W) → A ⊎ ((b ≡ true) × W)
  near_tail A W a b (inl h) = inl h
  near_tail A W a b (inr h) = inr ((and_parts a b h.0).1, h.1)

  pairs_ok : (x x0 x1 : ℤ) (ds es : Items) → AreLike ds es →
      (holds S faults.Overflow ≡ true) ⊎ ((are_items_near x0 ds x1 es ≡ true) × IsWithin x x0 x1) →
      PairsIn x x0 x1 (item_count ds) (pairs_in ds es)
  pairs_ok x x0 x1 no_items no_items h g = (refl, refl)
  pairs_ok x x0 x1 (item (number a) ds) (item (number b) es) h g =
      pair_step x x0 x1 a b (item_count ds) (pairs_in ds es)
      (line_ok x x0 a x1 b (near_head (holds S faults.Overflow ≡ true) (IsWithin x x0 x1) (is_near x0 a x1 b)
      (are_items_near x0 ds x1 es) g))
      (pairs_ok x x0 x1 ds es h.2 (near_tail (holds S faults.Overflow ≡ true) (IsWithin x x0 x1) (is_near x0 a
      x1 b) (are_items_near x0 ds x1 es) g))
  pairs_ok x x0 x1 (item (number a) ds) (item null es) h g = absurd (let q = h.1 in cc)
  pairs_ok x x0 x1 (item (number a) ds) (item (boolean b) es) h g = absurd (let q = h.1 in cc)
  pairs_ok x x0 x1 (item (number a) ds) (item (text s) es) h g = absurd (let q = h.1 in cc)
  pairs_ok x x0 x1 (item (number a) ds) (item (color c) es) h g = absurd (let q = h.1 in cc)
  pairs_ok x x0 x1 (item (number a) ds) (item (list fs) es) h g = absurd (let q = h.1 in cc)
  pairs_ok x x0 x1 (item (number a) ds) (item (map ps) es) h g = absurd (let q = h.1 in cc)
  pairs_ok x x0 x1 (item null ds) (item e es) h g = absurd (let q = h.0 in cc)
  pairs_ok x x0 x1 (item (boolean b) ds) (item e es) h g = absurd (let q = h.0 in cc)
  pairs_ok x x0 x1 (item (text s) ds) (item e es) h g = absurd (let q = h.0 in cc)
  pairs_ok x x0 x1 (item (color c) ds) (item e es) h g = absurd (let q = h.0 in cc)
  pairs_ok x x0 x1 (item (list fs) ds) (item e es) h g = absurd (let q = h.0 in cc)
  pairs_ok x x0 x1 (item (map ps) ds) (item e es) h g = absurd (let q = h.0 in cc)
  pairs_ok x x0 x1 no_items (item e es) h g = absurd h
  pairs_ok x x0 x1 (item d ds) no_items h g = absurd h

  list_in : (n : ℕ) (r : Result Items EvalFault) → ItemsIn n r →
      OutcomeOf S wants.Any (kinds.List items.Number (Some n)) (the_list r)
  list_in n (Ok ds) h =
      (refl, and_from (has_count (Some n) ds) (are_items items.Number ds) (eq-eqb (item_count ds) n h.0) h.1)
  list_in n (Err f) h = h

  lists_between : (x x0 x1 : ℤ) (n : ℕ) (r : Result (List (ℤ × ℤ)) EvalFault) → PairsIn x x0 x1 n r →
      OutcomeOf S wants.Any (kinds.List items.Number (Some n)) (list_between x x0 x1 r)
  lists_between x x0 x1 n (Ok ps) h = list_in n (items_between x x0 x1 ps) h
  lists_between x x0 x1 n (Err f) h = absurd h

  line_number : (r : Result ℤ Arith) → LineIn r → OutcomeOf S wants.Any kinds.Number (the_number r)
  line_number (Ok z) h = (refl, refl)
  line_number (Err f) h = h

  -- no step between two values passes the bound unlisted: Overflow is listed, or they are colors, or they are
  -- near
  abbrev pub SafeIn : ℤ → ℤ → Data → ℤ → Data → Type 0
  SafeIn x x0 d x1 e = (holds S faults.Overflow ≡ true) ⊎
      ((is_of kinds.Color d ≡ true) ⊎ ((are_near x0 d x1 e ≡ true) × IsWithin x x0 x1))

  without_color : (A C N : Type 0) → (C → ⊥) → A ⊎ (C ⊎ N) → A ⊎ N
  without_color A C N other (inl h) = inl h
  without_color A C N other (inr (inl h)) = absurd (other h)
  without_color A C N other (inr (inr h)) = inr h

  between_ok : (Q : Kind) → is_ramp_kind Q ≡ true → (x x0 : ℤ) (d : Data) (x1 : ℤ) (e : Data) →
      is_of Q d ≡ true → is_of Q e ≡ true → SafeIn x x0 d x1 e →
      OutcomeOf S wants.Any Q (between_of x x0 d x1 e)
  between_ok kinds.Number r x x0 (number a) x1 (number b) h g s =
      line_number (linear_of x x0 a x1 b) (line_ok x x0 a x1 b (without_color (holds S faults.Overflow ≡ true)
      (is_of kinds.Color (number a) ≡ true) ((is_near x0 a x1 b ≡ true) × IsWithin x x0 x1) (λ q. cc) s))
  between_ok kinds.Number r x x0 (number a) x1 _ h g s = absurd (cc)
  between_ok kinds.Number r x x0 _ x1 e h g s = absurd (cc)
  between_ok kinds.Color r x x0 (color a) x1 (color b) h g s = (refl, refl)
  between_ok kinds.Color r x x0 (color a) x1 _ h g s = absurd (cc)
  between_ok kinds.Color r x x0 _ x1 e h g s = absurd (cc)
  between_ok (kinds.List items.Number (Some n)) r x x0 (list ds) x1 (list es) h g s =
      let counted = eqb-true (item_count ds) n
      ((and_parts (has_count (Some n) ds) (are_items items.Number ds) h).0) in
      let counted' = eqb-true (item_count es) n
      ((and_parts (has_count (Some n) es) (are_items items.Number es) g).0) in
      let like = are_like n ds es counted counted'
      ((and_parts (has_count (Some n) ds) (are_items items.Number ds) h).1)
      ((and_parts (has_count (Some n) es) (are_items items.Number es) g).1) in
      lists_between x x0 x1 n (pairs_in ds es)
      (subst (λ (m : ℕ). PairsIn x x0 x1 m (pairs_in ds es)) counted
      (pairs_ok x x0 x1 ds es like (without_color (holds S faults.Overflow ≡ true) (is_of kinds.Color
      (list ds) ≡ true) ((are_items_near x0 ds x1 es ≡ true) × IsWithin x x0 x1) (λ q. cc) s)))
  between_ok (kinds.List items.Number (Some n)) r x x0 (list ds) x1 _ h g s = absurd (cc)
  between_ok (kinds.List items.Number (Some n)) r x x0 _ x1 e h g s = absurd (cc)
  between_ok _ r x x0 d x1 e h g s = absurd (cc)

  pub between_outcomes : (Q : Kind) → is_ramp_kind Q ≡ true → (x x0 x1 : ℤ) (a b : Evaluated) →
      OutcomeOf S wants.Any Q a → OutcomeOf S wants.Any Q b →
      ((d e : Data) → a ≡ Ok d → b ≡ Ok e → SafeIn x x0 d x1 e) →
      OutcomeOf S wants.Any Q (between_values x x0 x1 a b)
  between_outcomes Q r x x0 x1 (Ok d) (Ok e) h g s = between_ok Q r x x0 d x1 e h.1 g.1 (s d e refl refl)
  between_outcomes Q r x x0 x1 (Ok d) (Err f) h g s = g
  between_outcomes Q r x x0 x1 (Err f) b h g s = h
