-- The evaluations of cells of which none is asked twice are those of the cells that are not kept.
use Rattle.std.proofs.Common.{◌≡◌, ◌≢◌, ℕ, ◌+◌, List, [], ◌∷◌, length, Bool, true, false, ◌||◌, nat_eq, Option, Some, None, refl, ap, ◌∙◌, arith, if◌then◌else◌}
use Rattle.std.specs.Prelude.{cond, count_by, not}
use Rattle.std.specs.List.{AllByRecursion}
use Rattle.std.proofs.Math.Bool.{or-false}
use Rattle.std.proofs.lemmas.Bool.{false_from_ne_true}
use Rattle.std.proofs.lemmas.Bool.Decides.{nat_tests}
use Rattle.std.proofs.lemmas.List.Sums.{sum_by-cons}
use Rattle.layer_buckets.specs.Cells.{feature_eq, item_eq}
use Rattle.layer_buckets.proofs.ItemLaws.{item_true}
use Rattle.layer_buckets.proofs.Places.{and_true}
use Rattle.asked_cells.specs.Asked.{AskedCell, LayerCell, layer_cell_eq}
use Rattle.asked_cells.specs.Counted.{evaluations, sum_of_new, total_nodes}
use Rattle.bare_listing.specs.BareListing.{asked_nodes}
use Rattle.bare_listing.proofs.LayerCells.{AreOthers}
use Rattle.bare_listing.proofs.Pairs.{PairsByRecursion}

-- ---- cells that are the same

nat_same : (a b : ℕ) → nat_eq a b ≡ true → a ≡ b
nat_same a b t = grind (arith, nat_tests)

feature_same : (a b : Option ℕ) → feature_eq a b ≡ true → a ≡ b
feature_same None None t = refl
feature_same None (Some b) t = cc
feature_same (Some a) None t = cc
feature_same (Some a) (Some b) t = ap Some (nat_same a b t)

cell_same : (a b : LayerCell) → layer_cell_eq a b ≡ true → a ≡ b
cell_same a b t =
    let p = and_true (item_eq a.item b.item) (feature_eq a.feature b.feature) t in
    let q = item_true a.item b.item p.0 in
    let r = feature_same a.feature b.feature p.1 in
    λ i. record { feature = r i; item = q i }

cell_other : (a b : LayerCell) → a ≢ b → layer_cell_eq a b ≡ false
cell_other a b other = false_from_ne_true (layer_cell_eq a b) (λ t. other (cell_same a b t))

-- ---- what is counted

module _ (kept : LayerCell → Bool) where
  abbrev IsAsKept : (LayerCell → Bool) → AskedCell → Type 0
  IsAsKept own a = own a.cell ≡ kept a.cell

  -- a cell that was asked is none of those that remain
  still_kept : (own : LayerCell → Bool) (a : AskedCell) (asked : List AskedCell) → AllByRecursion (IsAsKept own) asked → AllByRecursion (AreOthers a) asked
      → AllByRecursion (IsAsKept (λ c. own c || layer_cell_eq a.cell c)) asked
  still_kept own a [] h others = tt
  still_kept own a (b ∷ asked) h others = (
    ap (λ e. own b.cell || e) (cell_other a.cell b.cell others.0) ∙ (or-false (own b.cell) ∙ h.0),
    still_kept own a asked h.1 others.1,
  )

  abbrev count_new : Bool → ℕ
  count_new is_kept = if is_kept then 0 else 1

  one_counted : (own is : Bool) → own ≡ is → count_new own ≡ cond (not is) 1 0
  one_counted own true e = ap count_new e
  one_counted own false e = ap count_new e

  pub counted : (own : LayerCell → Bool) (asked : List AskedCell) → AllByRecursion (IsAsKept own) asked → PairsByRecursion AreOthers asked
      → evaluations own asked ≡ count_by (λ a. not (kept a.cell)) asked
  counted own [] h others = refl
  counted own (a ∷ asked) h others =
      let rest = counted (λ c. own c || layer_cell_eq a.cell c) asked (still_kept own a asked h.1 others.0) others.1 in
      let more = sum_by-cons (λ (b : AskedCell). cond (not (kept b.cell)) 1 0) a asked in
      let first = one_counted (own a.cell) (kept a.cell) h.0 in
      omega (arith, rest, more, first)

  pub kept_itself : (asked : List AskedCell) → AllByRecursion (IsAsKept kept) asked
  kept_itself [] = tt
  kept_itself (a ∷ asked) = (refl, kept_itself asked)

-- ---- where nothing is kept

-- the sum is over all of them
module _ (amount : AskedCell → ℕ) where
  abbrev sum_of : List AskedCell → ℕ
  sum_of [] = 0
  sum_of (a ∷ asked) = amount a + sum_of asked

  abbrev AreLeft : (LayerCell → Bool) → List AskedCell → Type 0
  AreLeft own asked = AllByRecursion (IsAsKept (λ c. false) own) asked

  new_sum : (own : LayerCell → Bool) (asked : List AskedCell) → AreLeft own asked → PairsByRecursion AreOthers asked → sum_of_new amount own asked ≡ sum_of asked
  new_sum own [] h others = refl
  new_sum own (a ∷ asked) h others =
      ap (λ is. (if is then 0 else amount a) + sum_of_new amount (λ c. own c || layer_cell_eq a.cell c) asked) h.0
      ∙ ap (λ n. amount a + n) (new_sum (λ c. own c || layer_cell_eq a.cell c) asked (still_kept (λ c. false) own a asked h.1 others.0) others.1)

each_left : (own : LayerCell → Bool) → ((c : LayerCell) → own c ≡ false) → (asked : List AskedCell) → AllByRecursion (λ (a : AskedCell). own a.cell ≡ false) asked
each_left own none [] = tt
each_left own none (a ∷ asked) = (none a.cell, each_left own none asked)

ones : (asked : List AskedCell) → sum_of (λ (a : AskedCell). 1) asked ≡ length asked
ones [] = refl
ones (a ∷ asked) = let rest = ones asked in omega (arith, rest)

all_nodes : (asked : List AskedCell) → sum_of (λ (a : AskedCell). a.nodes) asked ≡ asked_nodes asked
all_nodes [] = refl
all_nodes (a ∷ asked) = ap (λ n. a.nodes + n) (all_nodes asked)

module _ (own : LayerCell → Bool) (none : (c : LayerCell) → own c ≡ false) (asked : List AskedCell) (apart : PairsByRecursion AreOthers asked) where
  -- each asked cell is evaluated
  pub bare_evaluations : evaluations own asked ≡ length asked
  bare_evaluations = new_sum (λ (a : AskedCell). 1) own asked (each_left own none asked) apart ∙ ones asked

  pub bare_nodes : total_nodes own asked ≡ asked_nodes asked
  bare_nodes = new_sum (λ (a : AskedCell). a.nodes) own asked (each_left own none asked) apart ∙ all_nodes asked
