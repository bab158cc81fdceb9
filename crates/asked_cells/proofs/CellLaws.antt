-- One cell that is asked.
use Rattle.std.proofs.Common.{◌≡◌, ◌≢◌, ℕ, ℤ, ◌+◌, ◌≤◌, List, [], ◌∷◌, Bool, true, false, ◌&&◌, ◌||◌, nat_eq, Option, Some, None, is_some, option_map, Result, Ok, Err, refl, sym, ap, ◌∙◌, subst, arith, if◌then◌else◌}
use Rattle.std.specs.Prelude.{IfOk, OnErr, OnOk}
use Rattle.std.proofs.lemmas.Bool.Decides.{nat_tests}
use Rattle.fixed_num.specs.Number.{floor_of}
use Rattle.operator_values.specs.Evaluated.{Evaluated}
use Rattle.expr_syntax.specs.TermSize.{nodes}
use Rattle.expr_nodes.specs.Evaluators.{Sized, nodes_at, nodes_in}
use Rattle.layer_buckets.specs.Cells.{cell_eq, feature_eq, item_eq}
use Rattle.layer_buckets.specs.Seen.{given_at, kept_at, refreshed, slot_in_source}
use Rattle.layer_buckets.specs.declared.buckets.Buckets.{Buckets}
use Rattle.layer_buckets.specs.declared.cell.Cell.{Cell}
use Rattle.layer_buckets.specs.declared.cell.CellItem.{CellItem}
use Rattle.layer_buckets.specs.declared.cell.Source.{Source}
use Rattle.layer_buckets.proofs.ItemLaws.{item_self, item_true}
use Rattle.layer_buckets.proofs.Places.{and_true, both}
use Rattle.style_layout.specs.Forms.{Scene}
use Rattle.style_layout.specs.Shown.{LayerFeature}
use Rattle.asked_cells.proofs.AskLaws.{none_asked}
use Rattle.asked_cells.specs.Asked.{AskedCell, LayerCell, asked_by, cell_in, cell_world, feature_number, given_by, item_zoom, layer_cell_eq}
use Rattle.asked_cells.specs.Counted.{AreMeant, AreRight, Asks, HaveAsked, KeptValues, kept_in}
use Rattle.asked_cells.specs.Expressions.{CellExpression, IsSourced, source_with}

-- ---- cells that are the same

nat_same : (a b : ℕ) → nat_eq a b ≡ true → a ≡ b
nat_same a b t = grind (arith, nat_tests)

nat_other : (a b : ℕ) → a ≢ b → nat_eq a b ≡ false
nat_other a b d = grind (arith, nat_tests)

nat_self : (a : ℕ) → nat_eq a a ≡ true
nat_self a = grind (arith, nat_tests)

feature_same : (a b : Option ℕ) → feature_eq a b ≡ true → a ≡ b
feature_same None None t = refl
feature_same None (Some b) t = cc
feature_same (Some a) None t = cc
feature_same (Some a) (Some b) t = ap Some (nat_same a b t)

feature_self : (o : Option ℕ) → feature_eq o o ≡ true
feature_self None = refl
feature_self (Some a) = nat_self a

cell_same : (a b : LayerCell) → layer_cell_eq a b ≡ true → a ≡ b
cell_same a b t =
    let p = and_true (item_eq a.item b.item) (feature_eq a.feature b.feature) t in
    let q = item_true a.item b.item p.0 in
    let r = feature_same a.feature b.feature p.1 in
    λ i. record { feature = r i; item = q i }

cell_self : (c : LayerCell) → layer_cell_eq c c ≡ true
cell_self c = both (item_eq c.item c.item) (feature_eq c.feature c.feature) (item_self c.item) (feature_self c.feature)

-- ---- a cell that is refreshed

-- What `refresh` promises of a cell of a layer, by what its expression gives and how many nodes the expression has.
pub record Refreshes {X : Type 0} (cell : LayerCell) (given : Option Evaluated) (count : ℕ) (old new : KeptValues)
    (result : Result ℕ X) (before after : ℕ) : Type 0 where
  pub kept : OnOk result ((other : LayerCell) → new other ≡ (if layer_cell_eq cell other
      then refreshed (old cell) given else old other))
  pub err : OnErr result ((other : LayerCell) → new other ≡ old other)
  pub number : IfOk result (λ n. n ≡ (if is_some (old cell) then 0 else 1))
  pub still : is_some (old cell) ≡ true → after ≡ before
  pub least : IfOk result (λ n. before + n ≤ after)
  pub most : after ≤ before + count

-- the value that is kept for a cell after it was asked
refreshed_right : (o given : Option Evaluated) (v : Evaluated) → ((e : Evaluated) → o ≡ Some e → e ≡ v) → given ≡ Some v
    → refreshed o given ≡ Some v
refreshed_right (Some e) given v right meant = ap Some (right e refl)
refreshed_right None given v right meant = meant

most_of : (b : Bool) (before after count : ℕ) → (b ≡ true → after ≡ before) → after ≤ before + count
    → after ≤ before + ((if b then 0 else count) + 0)
most_of true before after count still most = let e : after ≡ before = still refl in omega (arith, e)
most_of false before after count still most = omega (arith, most)

module _ (meaning : LayerCell → Evaluated) (a : AskedCell) (old new : KeptValues) (before after : ℕ)
    (right : AreRight meaning old) where
  kept_by : (other : LayerCell) → a.given ≡ meaning a.cell → (b : Bool) → layer_cell_eq a.cell other ≡ b
      → new other ≡ (if b then refreshed (old a.cell) (Some a.given) else old other)
      → new other ≡ (if b || false then Some (meaning other) else old other)
  kept_by other meant true same h =
      h ∙ (refreshed_right (old a.cell) (Some a.given) (meaning a.cell) (right a.cell) (ap Some meant)
      ∙ ap (λ c. Some (meaning c)) (cell_same a.cell other same))
  kept_by other meant false same h = h

  stays_by : (other : LayerCell) (value : Evaluated) → old other ≡ Some value → (b : Bool) → layer_cell_eq a.cell other ≡ b
      → new other ≡ (if b then refreshed (old a.cell) (Some a.given) else old other) → new other ≡ Some value
  stays_by other value e true same h =
      let here : old a.cell ≡ Some value = ap old (cell_same a.cell other same) ∙ e in
      h ∙ ap (λ o. refreshed o (Some a.given)) here
  stays_by other value e false same h = h ∙ e

  cell_asked : {X : Type 0} (result : Result ℕ X) → Refreshes a.cell (Some a.given) a.nodes old new result before after
      → AreMeant meaning (a ∷ []) → Asks meaning (a ∷ []) old new result before after
  cell_asked (Ok n) r meant = record {
    most = most_of (is_some (old a.cell)) before after a.nodes r.still r.most;
    stays = λ other value e. stays_by other value e (layer_cell_eq a.cell other) refl (r.kept other);
    ok = record {
      kept = λ other. kept_by other meant.0 (layer_cell_eq a.cell other) refl (r.kept other);
      evaluated = let e : n ≡ (if is_some (old a.cell) then 0 else 1) = r.number in omega (arith, e);
      least = r.least;
    };
  }
  cell_asked (Err x) r meant = record {
    most = most_of (is_some (old a.cell)) before after a.nodes r.still r.most;
    stays = λ other value e. r.err other ∙ e;
    ok = tt;
  }

-- ---- in buckets

-- What is promised of all cells is promised of those of a layer, and those of other layers stay.
module _ {E : Type 0} (number : ℕ) (cell : LayerCell) (given : Option Evaluated) (old new : Buckets E) where
  in_layer : (other : LayerCell) → cell_eq (cell_in number cell) (cell_in number other) ≡ layer_cell_eq cell other
  in_layer other = ap (λ b. (b && item_eq cell.item other.item) && feature_eq cell.feature other.feature) (nat_self number)

  in_others : (other : Cell) → number ≢ other.layer → cell_eq (cell_in number cell) other ≡ false
  in_others other apart =
      ap (λ b. (b && item_eq cell.item other.item) && feature_eq cell.feature other.feature) (nat_other number other.layer apart)

  module _ {X : Type 0} where
    pub layer_kept : (result : Result ℕ X)
        → OnOk result ((other : Cell) → kept_at new other ≡ (if cell_eq (cell_in number cell) other
        then refreshed (kept_at old (cell_in number cell)) given else kept_at old other))
        → OnOk result ((other : LayerCell) → kept_in new number other ≡ (if layer_cell_eq cell other
        then refreshed (kept_in old number cell) given else kept_in old number other))
    layer_kept (Ok n) h = λ other. h (cell_in number other)
        ∙ ap (λ b. if b then refreshed (kept_in old number cell) given else kept_in old number other) (in_layer other)
    layer_kept (Err x) h = tt

    pub layer_stays : (result : Result ℕ X) → OnErr result ((other : Cell) → kept_at new other ≡ kept_at old other)
        → OnErr result ((other : LayerCell) → kept_in new number other ≡ kept_in old number other)
    layer_stays (Ok n) h = tt
    layer_stays (Err x) h = λ other. h (cell_in number other)

    pub others_stay : (result : Result ℕ X)
        → OnOk result ((other : Cell) → kept_at new other ≡ (if cell_eq (cell_in number cell) other
        then refreshed (kept_at old (cell_in number cell)) given else kept_at old other))
        → OnErr result ((other : Cell) → kept_at new other ≡ kept_at old other)
        → (other : Cell) → number ≢ other.layer → kept_at new other ≡ kept_at old other
    others_stay (Ok n) h err other apart = h other
        ∙ ap (λ b. if b then refreshed (kept_at old (cell_in number cell)) given else kept_at old other) (in_others other apart)
    others_stay (Err x) h err other apart = err other

-- ---- the cell of an item

-- the zoom that a value sees, by its source
abbrev pub source_zoom : Scene → Source → ℤ
source_zoom scene s = if s.paint then scene.zoom else floor_of scene.zoom

module _ (slots : List Sized) (scene : Scene) (feature : Option LayerFeature) (item : CellItem) where
  -- a source's expression gives what the item's expression gives, and has as many nodes
  given_of : (e : CellExpression) (source : Option Source) (s : Source) → IsSourced slots item (Some e) source → source ≡ Some s
      → given_at slots (slot_in_source source) (cell_world scene (source_zoom scene s) feature) ≡ Some (given_by scene e feature)
  given_of e source s (slot, is, at) there =
      let whole : Some s ≡ Some (source_with slot item e) = sym there ∙ is in
      let same : s ≡ source_with slot item e = cc in
      ap (λ o. given_at slots (slot_in_source o) (cell_world scene (source_zoom scene s) feature)) is
      ∙ (ap (λ (r : Source). given_at slots slot (cell_world scene (source_zoom scene r) feature)) same
      ∙ ap (option_map (λ (t : Sized). t.0 (cell_world scene (item_zoom scene e) feature))) at)

  nodes_of : (e : CellExpression) (source : Option Source) → IsSourced slots item (Some e) source
      → nodes_at slots (slot_in_source source) ≡ nodes e.term
  nodes_of e source (slot, is, at) = ap (λ o. nodes_at slots (slot_in_source o)) is ∙ ap nodes_in at

  pub item_refreshed : {X : Type 0} (meaning : LayerCell → Evaluated) (old new : KeptValues) (before after : ℕ) (result : Result ℕ X)
      (o : Option CellExpression) (source : Option Source) (s : Source) → AreRight meaning old → IsSourced slots item o source
      → source ≡ Some s
      → Refreshes (record { feature = feature_number feature; item = item })
      (given_at slots (slot_in_source source) (cell_world scene (source_zoom scene s) feature))
      (nodes_at slots (slot_in_source source)) old new result before after
      → AreMeant meaning (asked_by scene o feature item) → Asks meaning (asked_by scene o feature item) old new result before after
  item_refreshed meaning old new before after result None source s right is there r meant = absurd (cc)
  item_refreshed meaning old new before after result (Some e) source s right is there r meant =
      let cell : LayerCell = record { feature = feature_number feature; item = item } in
      cell_asked meaning (record { cell = cell; given = given_by scene e feature; nodes = nodes e.term }) old new before after right result
      (subst (λ count. Refreshes cell (Some (given_by scene e feature)) count old new result before after) (nodes_of e source is)
      (subst (λ given. Refreshes cell given (nodes_at slots (slot_in_source source)) old new result before after)
      (given_of e source s is there) r)) meant

  -- nothing is asked of an item without a source
  pub none_there : {X : Type 0} (meaning : LayerCell → Evaluated) (old : KeptValues) (before : ℕ) (o : Option CellExpression)
      (source : Option Source) → IsSourced slots item o source → source ≡ None
      → Asks meaning {X = X} (asked_by scene o feature item) old old (Ok 0) before before
  none_there meaning old before None source is none = none_asked meaning old before
  none_there meaning old before (Some e) source (slot, is, at) none = absurd (cc)

-- what is kept of a cell that was asked is what its expression gives
pub kept_given : (meaning : LayerCell → Evaluated) (scene : Scene) (e : CellExpression) (feature : Option LayerFeature) (item : CellItem)
    (old new : KeptValues) (n before after : ℕ) → AreMeant meaning (asked_by scene (Some e) feature item)
    → HaveAsked meaning (asked_by scene (Some e) feature item) old new n before after
    → new (record { feature = feature_number feature; item = item }) ≡ Some (given_by scene e feature)
kept_given meaning scene e feature item old new n before after meant h =
    let cell : LayerCell = record { feature = feature_number feature; item = item } in
    h.kept cell ∙ (ap (λ b. if b || false then Some (meaning cell) else old cell) (cell_self cell) ∙ ap Some (sym meant.0))
