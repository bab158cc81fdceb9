-- Calls that ask cells, one after another.
use Rattle.std.proofs.Common.{◌≡◌, ℕ, ◌+◌, ◌≤◌, List, [], ◌∷◌, ◌++◌, Bool, true, false, ◌||◌, Option, Some, None, is_some, Result, Ok, Err, refl, sym, ap, ◌∙◌, subst, arith, if◌then◌else◌}
use Rattle.std.proofs.Math.Bool.{or_assoc, or-false}
use Rattle.std.specs.Prelude.{IfOk}
use Rattle.std.specs.Result.{IsErr}
use Rattle.operator_values.specs.Evaluated.{Evaluated}
use Rattle.asked_cells.specs.Asked.{AskedCell, LayerCell, layer_cell_eq}
use Rattle.asked_cells.specs.Counted.{AreMeant, AreRight, Asks, HaveAsked, KeptValues, evaluations, is_asked, is_kept, kept_after, sum_of_new, total_nodes}

-- ---- what is asked in two parts

module _ (amount : AskedCell → ℕ) where
  sum_same : (k g : LayerCell → Bool) (xs : List AskedCell) → ((c : LayerCell) → k c ≡ g c)
      → sum_of_new amount k xs ≡ sum_of_new amount g xs
  sum_same k g xs h = λ i. sum_of_new amount (λ c. h c i) xs

  sum_more : (k : LayerCell → Bool) (xs ys : List AskedCell) → sum_of_new amount k (xs ++ ys)
      ≡ sum_of_new amount k xs + sum_of_new amount (λ c. k c || is_asked xs c) ys
  sum_more k [] ys =
      let same : sum_of_new amount (λ c. k c || false) ys ≡ sum_of_new amount k ys =
      sum_same (λ c. k c || false) k ys (λ c. or-false (k c)) in
      omega (arith, same)
  sum_more k (x ∷ xs) ys =
      let rest = sum_more (λ c. k c || layer_cell_eq x.cell c) xs ys in
      let same : sum_of_new amount (λ c. (k c || layer_cell_eq x.cell c) || is_asked xs c) ys
      ≡ sum_of_new amount (λ c. k c || (layer_cell_eq x.cell c || is_asked xs c)) ys =
      sum_same (λ c. (k c || layer_cell_eq x.cell c) || is_asked xs c) (λ c. k c || (layer_cell_eq x.cell c || is_asked xs c)) ys
      (λ c. or_assoc (k c) (layer_cell_eq x.cell c) (is_asked xs c)) in
      omega (arith, rest, same)

pub asked_more : (xs ys : List AskedCell) (c : LayerCell) → is_asked (xs ++ ys) c ≡ (is_asked xs c || is_asked ys c)
asked_more [] ys c = refl
asked_more (x ∷ xs) ys c =
    ap (λ b. layer_cell_eq x.cell c || b) (asked_more xs ys c) ∙ sym (or_assoc (layer_cell_eq x.cell c) (is_asked xs c) (is_asked ys c))

turn : (a b : Bool) (v : Evaluated) (o : Option Evaluated)
    → (if b then Some v else (if a then Some v else o)) ≡ (if a || b then Some v else o)
turn true true v o = refl
turn true false v o = refl
turn false true v o = refl
turn false false v o = refl

some_or : (b : Bool) (v : Evaluated) (o : Option Evaluated) → is_some (if b then Some v else o) ≡ (is_some o || b)
some_or true v (Some e) = refl
some_or true v None = refl
some_or false v (Some e) = refl
some_or false v None = refl

right_by : (b : Bool) (v e : Evaluated) (o : Option Evaluated) → (o ≡ Some e → e ≡ v) → (if b then Some v else o) ≡ Some e → e ≡ v
right_by true v e o f h = cc
right_by false v e o f h = f h

if_failed : {X Y : Type 0} (r : Result X Y) (P : X → Type 0) → IsErr r → IfOk r P
if_failed (Ok x) P failed = absurd (cc)
if_failed (Err y) P failed = tt

module _ (meaning : LayerCell → Evaluated) where
  kept_more : (xs ys : List AskedCell) (k : KeptValues) (c : LayerCell)
      → kept_after meaning ys (kept_after meaning xs k) c ≡ kept_after meaning (xs ++ ys) k c
  kept_more xs ys k c = turn (is_asked xs c) (is_asked ys c) (meaning c) (k c)
      ∙ ap (λ b. if b then Some (meaning c) else k c) (sym (asked_more xs ys c))

  kept_is : (xs : List AskedCell) (k new : KeptValues) → ((c : LayerCell) → new c ≡ kept_after meaning xs k c) → (c : LayerCell)
      → is_kept new c ≡ (is_kept k c || is_asked xs c)
  kept_is xs k new h c = ap is_some (h c) ∙ some_or (is_asked xs c) (meaning c) (k c)

  -- what is kept after cells were asked is right where it was before
  pub right_after : (xs : List AskedCell) (k new : KeptValues) → ((c : LayerCell) → new c ≡ kept_after meaning xs k c)
      → AreRight meaning k → AreRight meaning new
  right_after xs k new h right c e same =
      right_by (is_asked xs c) (meaning c) e (k c) (right c e) (sym (h c) ∙ same)

  pub meant_first : (xs ys : List AskedCell) → AreMeant meaning (xs ++ ys) → AreMeant meaning xs
  meant_first [] ys m = tt
  meant_first (x ∷ xs) ys m = (m.0, meant_first xs ys m.1)

  pub meant_then : (xs ys : List AskedCell) → AreMeant meaning (xs ++ ys) → AreMeant meaning ys
  meant_then [] ys m = m
  meant_then (x ∷ xs) ys m = meant_then xs ys m.1

  -- ---- what remains to be asked

  -- Of the cells to be asked these are left, and so many were evaluated of the others.
  pub record Remain (left asked : List AskedCell) (old now : KeptValues) (n before after : ℕ) : Type 0 where
    pub kept : (c : LayerCell) → kept_after meaning left now c ≡ kept_after meaning asked old c
    pub counted : n + evaluations (is_kept now) left ≡ evaluations (is_kept old) asked
    pub least : before + n ≤ after
    pub most : after + total_nodes (is_kept now) left ≤ before + total_nodes (is_kept old) asked
    pub stays : (c : LayerCell) (value : Evaluated) → old c ≡ Some value → now c ≡ Some value
    pub right : AreRight meaning now
    pub meant : AreMeant meaning left

  pub all_remain : (asked : List AskedCell) (old : KeptValues) (before : ℕ) → AreRight meaning old → AreMeant meaning asked
      → Remain asked asked old old 0 before before
  all_remain asked old before right meant = record {
    kept = λ c. refl;
    counted = omega arith;
    least = omega arith;
    most = omega arith;
    stays = λ c value e. e;
    right = right;
    meant = meant;
  }

  -- the same cells are left, by another name
  pub remain_same : (left others asked : List AskedCell) (old now : KeptValues) (n before after : ℕ) → left ≡ others
      → Remain left asked old now n before after → Remain others asked old now n before after
  remain_same left others asked old now n before after e r = subst (λ l. Remain l asked old now n before after) e r

  module _ (xs left asked : List AskedCell) (old now new : KeptValues) (n before mid after : ℕ)
      (r : Remain (xs ++ left) asked old now n before mid) where
    -- these are meant as well
    pub first_meant : AreMeant meaning xs
    first_meant = meant_first xs left r.meant

    within : {X : Type 0} (result : Result ℕ X) → Asks meaning xs now new result mid after
        → after + sum_of_new (λ (a : AskedCell). a.nodes) (λ c. is_kept now c || is_asked xs c) left ≤ before + total_nodes (is_kept old) asked
    within result a =
        let more = sum_more (λ (a : AskedCell). a.nodes) (is_kept now) xs left in
        omega (arith, more, a.most, r.most)

    -- An allocation fails.
    pub stops_most : {X : Type 0} (result : Result ℕ X) → Asks meaning xs now new result mid after → after ≤ before + total_nodes (is_kept old) asked
    stops_most result a = let w = within result a in omega (arith, w)

    pub stops_stays : {X : Type 0} (result : Result ℕ X) → Asks meaning xs now new result mid after
        → (c : LayerCell) (value : Evaluated) → old c ≡ Some value → new c ≡ Some value
    stops_stays result a c value e = a.stays c value (r.stays c value e)

    -- Cells have been asked.
    pub some_asked : {X : Type 0} (m total : ℕ) → Asks meaning {X = X} xs now new (Ok m) mid after → total ≡ n + m
        → Remain left asked old new total before after
    some_asked {X} m total a sum =
        let h : HaveAsked meaning xs now new m mid after = a.ok in
        let is = kept_is xs now new h.kept in
        let more = sum_more (λ (a : AskedCell). 1) (is_kept now) xs left in
        let same : evaluations (is_kept new) left ≡ sum_of_new (λ (a : AskedCell). 1) (λ c. is_kept now c || is_asked xs c) left =
        sum_same (λ (a : AskedCell). 1) (is_kept new) (λ c. is_kept now c || is_asked xs c) left is in
        let nodes : total_nodes (is_kept new) left ≡ sum_of_new (λ (a : AskedCell). a.nodes) (λ c. is_kept now c || is_asked xs c) left =
        sum_same (λ (a : AskedCell). a.nodes) (is_kept new) (λ c. is_kept now c || is_asked xs c) left is in
        let w = within (Ok m) a in
        record {
          kept = λ c. ap (λ o. if is_asked left c then Some (meaning c) else o) (h.kept c) ∙ (kept_more xs left now c ∙ r.kept c);
          counted = omega (arith, more, same, h.evaluated, r.counted, sum);
          least = omega (arith, h.least, r.least, sum);
          most = omega (arith, w, nodes);
          stays = stops_stays (Ok m) a;
          right = right_after xs now new h.kept r.right;
          meant = meant_then xs left r.meant;
        }

  -- ---- ends

  -- all have been asked
  pub all_asked : {X : Type 0} (asked : List AskedCell) (old now : KeptValues) (n before after : ℕ)
      → Remain [] asked old now n before after → Asks meaning {X = X} asked old now (Ok n) before after
  all_asked asked old now n before after r = record {
    most = omega (arith, r.most);
    stays = r.stays;
    ok = record {
      kept = r.kept;
      evaluated = omega (arith, r.counted);
      least = r.least;
    };
  }

  -- an allocation fails after some have been asked
  pub stops : {X : Type 0} (left asked : List AskedCell) (old now : KeptValues) (n before after : ℕ) (result : Result ℕ X)
      → IsErr result → Remain left asked old now n before after → Asks meaning asked old now result before after
  stops left asked old now n before after result failed r = record {
    most = omega (arith, r.most);
    stays = r.stays;
    ok = if_failed result (λ m. HaveAsked meaning asked old now m before after) failed;
  }

  -- one fails in the midst of asking
  pub stops_within : {X : Type 0} (xs left asked : List AskedCell) (old now new : KeptValues) (n before mid after : ℕ)
      (first result : Result ℕ X) → IsErr result → Remain (xs ++ left) asked old now n before mid
      → Asks meaning xs now new first mid after → Asks meaning asked old new result before after
  stops_within xs left asked old now new n before mid after first result failed r a = record {
    most = stops_most xs left asked old now new n before mid after r first a;
    stays = stops_stays xs left asked old now new n before mid after r first a;
    ok = if_failed result (λ m. HaveAsked meaning asked old new m before after) failed;
  }

  -- the same cells, by another name
  pub asks_same : {X : Type 0} (xs ys : List AskedCell) (old new : KeptValues) (result : Result ℕ X) (before after : ℕ)
      → xs ≡ ys → Asks meaning xs old new result before after → Asks meaning ys old new result before after
  asks_same xs ys old new result before after e a = subst (λ asked. Asks meaning asked old new result before after) e a

  pub meant_same : (xs ys : List AskedCell) → xs ≡ ys → AreMeant meaning ys → AreMeant meaning xs
  meant_same xs ys e m = subst (λ asked. AreMeant meaning asked) (sym e) m

  -- nothing is asked
  pub none_asked : {X : Type 0} (old : KeptValues) (before : ℕ) → Asks meaning {X = X} [] old old (Ok 0) before before
  none_asked old before = record {
    most = omega arith;
    stays = λ c value e. e;
    ok = record { kept = λ c. refl; evaluated = refl; least = omega arith };
  }

  -- ---- two calls, one after the other

  nothing_more : (xs : List AskedCell) → xs ++ [] ≡ xs
  nothing_more [] = refl
  nothing_more (x ∷ xs) = ap (λ ys. x ∷ ys) (nothing_more xs)

  module _ (xs ys : List AskedCell) (old mid new : KeptValues) (before between after : ℕ)
      (right : AreRight meaning old) (meant : AreMeant meaning (xs ++ ys)) where
    all_left : Remain (xs ++ ys) (xs ++ ys) old old 0 before before
    all_left = all_remain (xs ++ ys) old before right meant

    second_left : {X : Type 0} (n : ℕ) → Asks meaning {X = X} xs old mid (Ok n) before between → Remain (ys ++ []) (xs ++ ys) old mid n before between
    second_left n a = remain_same ys (ys ++ []) (xs ++ ys) old mid n before between (sym (nothing_more ys))
        (some_asked xs ys (xs ++ ys) old old mid 0 before before between all_left n n a (omega arith))

    pub first_stops : {X : Type 0} (first result : Result ℕ X) → IsErr result → Asks meaning xs old mid first before between
        → Asks meaning (xs ++ ys) old mid result before between
    first_stops first result failed a =
        stops_within xs ys (xs ++ ys) old old mid 0 before before between first result failed all_left a

    pub second_right : {X : Type 0} (n : ℕ) → Asks meaning {X = X} xs old mid (Ok n) before between → AreRight meaning mid
    second_right n a = (second_left n a).right

    pub second_stops : {X : Type 0} (n : ℕ) (second result : Result ℕ X) → IsErr result
        → Asks meaning {X = X} xs old mid (Ok n) before between → Asks meaning ys mid new second between after
        → Asks meaning (xs ++ ys) old new result before after
    second_stops n second result failed a b =
        stops_within ys [] (xs ++ ys) old mid new n before between after second result failed (second_left n a) b

    pub both_asked : {X : Type 0} (n m : ℕ) (result : Result ℕ X) → Asks meaning {X = X} xs old mid (Ok n) before between
        → Asks meaning {X = X} ys mid new (Ok m) between after → IfOk result (λ sum. sum ≡ n + m)
        → Asks meaning (xs ++ ys) old new result before after
    both_asked n m (Ok sum) a b is = all_asked (xs ++ ys) old new sum before after
        (some_asked ys [] (xs ++ ys) old mid new n before between after (second_left n a) m sum b is)
    both_asked n m (Err x) a b is = second_stops n (Ok m) (Err x) refl a b

  -- ---- what callers know afterwards

  -- an asked cell is kept
  pub asked_kept : (asked : List AskedCell) (old new : KeptValues) (n before after : ℕ)
      → HaveAsked meaning asked old new n before after → (c : LayerCell) → is_asked asked c ≡ true → new c ≡ Some (meaning c)
  asked_kept asked old new n before after h c is =
      h.kept c ∙ ap (λ b. if b then Some (meaning c) else old c) is

-- the first cells have no more nodes than all
pub fewer_asked : (xs ys : List AskedCell) (old : KeptValues) → total_nodes (is_kept old) xs ≤ total_nodes (is_kept old) (xs ++ ys)
fewer_asked xs ys old = let more = sum_more (λ (a : AskedCell). a.nodes) (is_kept old) xs ys in omega (arith, more)
