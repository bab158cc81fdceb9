-- Layers keep their numbers, and what is noted of their expressions stays so.
use Rattle.std.proofs.Common.{◌≡◌, ◌≢◌, ◌+◌, ◌≤◌, ◌<◌, ℕ, List, length, map, get_or, Bool, true, false, ◌||◌, nat_eq, Option, None, is_some, refl, sym, ap, ◌∙◌, subst, arith, inl, inr, if◌then◌else◌}
use Rattle.std.specs.Prelude.{◌⊎◌, insert}
use Rattle.std.specs.Option.{option_and_then}
use Rattle.std.proofs.lemmas.Option.{slice_get_past}
use Rattle.decimal_json.specs.Tree.{Tree}
use Rattle.prop_values.specs.Data.{Data}
use Rattle.property_tables.specs.Rows.{rows_of}
use Rattle.property_tables.specs.declared.layer_type.LayerType.{LayerType}
use Rattle.expr_nodes.specs.Evaluators.{Sized}
use Rattle.layer_buckets.specs.Cells as cells
use Rattle.layer_buckets.specs.Seen.{IsSound, evaluator_of, features_of, kept_at, names_cell, source_of}
use Rattle.layer_buckets.specs.declared.buckets.Buckets.{Buckets}
use Rattle.layer_buckets.specs.declared.cell.Cell.{Cell}
use Rattle.layer_buckets.specs.declared.cell.CellItem.{CellItem}
use Rattle.layer_buckets.specs.declared.cell.CellItem.TheVariants as items
use Rattle.layer_buckets.specs.declared.cell.Source.{Source}
use Rattle.layer_buckets.specs.declared.cell.Stale.{Stale}
use Rattle.layer_buckets.proofs.ItemLaws.{item_true}
use Rattle.layer_buckets.proofs.Places.{by_bool}
use Rattle.noted_places.proofs.NotedLaws.{noted_add, noted_change, noted_same}
use Rattle.noted_places.specs.Places.{AreNoted, NotesIf, after_insert, places_in}
use Rattle.asked_cells.specs.Asked.{cell_in}
use Rattle.asked_cells.specs.Asking.{LeavesSources}
use Rattle.asked_cells.specs.Counted.{kept_in}
use Rattle.asked_cells.specs.Expressions.{CellExpression, HasExpressions, IsSourced}
use Rattle.cell_sources.specs.CellExpressions.{IsItemOf, item_expression, row_expression}
use Rattle.cell_sources.specs.Sourced.{SetsItem}
use Rattle.form_pool.specs.PoolSlots.{pool_slots}
use Rattle.kept_layers.proofs.DropLaws.{bare_still, none_or, there_still}
use Rattle.kept_layers.proofs.GlobalLaws.{below_or_last, below_or_past}
use Rattle.kept_layers.proofs.HoldingLaws.{Leaves, item_apart, nat_apart, nat_same}
use Rattle.kept_layers.proofs.ListLaws.{asked_bare}
use Rattle.kept_layers.proofs.Lists.{apart_at, get_same, other_at}
use Rattle.kept_layers.specs.Holding.{AbsentAreBare, AreApart, AreThere, IsOther, NoneReadsGlobals, ReadsNoState, Still}
use Rattle.kept_layers.specs.View.{AreNumbered}
use Rattle.kept_layers.specs.declared.kept_layers.KeptLayers.{KeptLayers}

-- ---- what is noted

pub off_first : (a b : Bool) → (a || b) ≡ false → a ≡ false
off_first false b h = refl
off_first true b h = h

pub off_second : (a b : Bool) → (a || b) ≡ false → b ≡ false
off_second false b h = h
off_second true b h = absurd (cc)

module _ {E : Type 0} where
  -- the sources of one layer are others
  pub noted_left : (slots : E → List Sized) (n : ℕ) (old new : Buckets E) → Leaves slots n old new → NoneReadsGlobals old
      → ((item : CellItem) → cells.reads_globals (source_of new n item) ≡ false) → NoneReadsGlobals new
  noted_left slots n old new left none this l item = by_bool (nat_eq n l)
      (λ same. subst (λ k. cells.reads_globals (source_of new k item) ≡ false) (nat_same n l same) (this item))
      (λ apart. ap cells.reads_globals (left.source l item (nat_apart n l apart)) ∙ none l item)

  -- an item that is none of its type has no source
  past_source : (slots : E → List Sized) (n : ℕ) (globals : List (List ℕ × Data)) (type : LayerType) (layer : Tree) (b : Buckets E)
      → HasExpressions slots n (item_expression globals type layer) b → (m : ℕ) → length (rows_of type) ≤ m → source_of b n (items.Property m) ≡ None
  past_source slots n globals type layer b sources m past =
      subst (λ o. IsSourced (slots (evaluator_of b)) (items.Property m) (option_and_then (row_expression globals type layer) o) (source_of b n (items.Property m)))
      (slice_get_past (rows_of type) m past) (sources (items.Property m))

-- ---- what sources read

module _ {E : Type 0} (reads : Option Source → Bool) where
  -- where no item of the layer's type reads it, none does
  pub noted_items : reads None ≡ false → (slots : E → List Sized) (n : ℕ) (globals : List (List ℕ × Data)) (type : LayerType) (layer : Tree) (b : Buckets E)
      → HasExpressions slots n (item_expression globals type layer) b
      → ((item : CellItem) → IsItemOf type item → reads (source_of b n item) ≡ false)
      → (item : CellItem) → reads (source_of b n item) ≡ false
  noted_items bare slots n globals type layer b sources none items.Filter = none items.Filter tt
  noted_items bare slots n globals type layer b sources none (items.Property m) = by_place (below_or_past m (length (rows_of type))) where
    by_place : (m < length (rows_of type)) ⊎ (length (rows_of type) ≤ m) → reads (source_of b n (items.Property m)) ≡ false
    by_place (inl below) = none (items.Property m) below
    by_place (inr past) = ap reads (past_source slots n globals type layer b sources m past) ∙ bare

  -- the source of one item is another
  pub noted_item : (slots : E → List Sized) (n : ℕ) (item : CellItem) (expression : Option CellExpression) (old new : Buckets E)
      → SetsItem slots n item expression old new → ((other : CellItem) → reads (source_of old n other) ≡ false) → reads (source_of new n item) ≡ false
      → (other : CellItem) → reads (source_of new n other) ≡ false
  noted_item slots n item expression old new sets none this other = by_bool (cells.item_eq item other)
      (λ same. subst (λ i. reads (source_of new n i) ≡ false) (item_true item other same) this)
      (λ apart. ap reads (sets.others other (item_apart item other apart)) ∙ none other)

  -- ---- the items of a layer

  module _ (b : Buckets E) (n count : ℕ)
      (first : (m : ℕ) → m < count → reads (source_of b n (items.Property m)) ≡ false) where
    pub one_unread : reads (source_of b n (items.Property count)) ≡ false
        → (m : ℕ) → m < count + 1 → reads (source_of b n (items.Property m)) ≡ false
    one_unread this m h = step (below_or_last m count h) where
      step : (m ≡ count) ⊎ (m < count) → reads (source_of b n (items.Property m)) ≡ false
      step (inl is) = subst (λ k. reads (source_of b n (items.Property k)) ≡ false) (sym is) this
      step (inr below) = first m below

    pub all_unread : (type : LayerType) → length (rows_of type) ≤ count → reads (source_of b n items.Filter) ≡ false
        → (item : CellItem) → IsItemOf type item → reads (source_of b n item) ≡ false
    all_unread type past this items.Filter is = this
    all_unread type past this (items.Property m) is = first m (omega (arith, is, past))

-- ---- layers that read no state

module _ {E : Type 0} where
  -- another layer reads what it read
  pub unread_other : (slots : E → List Sized) (n : ℕ) (old new : Buckets E) → Leaves slots n old new → (m : ℕ) → n ≢ m
      → ReadsNoState old m → ReadsNoState new m
  unread_other slots n old new left m other none item = ap cells.reads_state (left.source m item other) ∙ none item

  -- a layer is removed
  pub unread_gone : (n : ℕ) (old new : Buckets E)
      → ((l : ℕ) (item : CellItem) → source_of new l item ≡ (if nat_eq n l then None else source_of old l item))
      → (m : ℕ) → ReadsNoState old m → ReadsNoState new m
  unread_gone n old new source m none item = ap cells.reads_state (source m item) ∙ by_test (nat_eq n m) (source_of old m item) (none item) where
    by_test : (t : Bool) (o : Option Source) → cells.reads_state o ≡ false → cells.reads_state (if t then None else o) ≡ false
    by_test true o off = refl
    by_test false o off = off

  -- one comes among others
  pub states_added : (slots : E → List Sized) (n : ℕ) (old new : Buckets E) → Leaves slots n old new → (ns ps qs : List ℕ) → IsOther n ns
      → AreNoted (ReadsNoState old) ns ps → (place : ℕ) → place ≤ length ns → (reads : Bool) → NotesIf reads place (map (after_insert place) ps) qs
      → (reads ≡ false → ReadsNoState new n) → AreNoted (ReadsNoState new) (insert ns place n) qs
  states_added slots n old new left ns ps qs other noted place inside reads notes this =
      noted_add (ReadsNoState new) ns ps
      (noted_same (ReadsNoState old) ns ps noted (ReadsNoState new)
      (λ p d within none. unread_other slots n old new left (get_or ns p d) (other_at n ns p d within other) none))
      place n inside reads qs notes this

  -- the item of one is another
  pub states_changed : (slots : E → List Sized) (n : ℕ) (old new : Buckets E) → Leaves slots n old new → (ns ps qs : List ℕ) → AreApart ns
      → AreNoted (ReadsNoState old) ns ps → (place : ℕ) → place < length ns → n ≡ get_or ns place n → (reads : Bool) → NotesIf reads place ps qs
      → (reads ≡ false → ReadsNoState old n → ReadsNoState new n) → AreNoted (ReadsNoState new) ns qs
  states_changed slots n old new left ns ps qs apart noted place within is reads notes this =
      noted_change (ReadsNoState old) ns ps noted (ReadsNoState new) reads place qs notes within
      (λ p d inside other none. unread_other slots n old new left (get_or ns p d)
      (λ e. apart_at ns place p n d within inside (λ same. other (sym same)) apart (sym is ∙ e)) none)
      (λ off d none.
      let here : get_or ns place d ≡ n = get_same ns place d n within ∙ sym is in
      subst (ReadsNoState new) (sym here) (this off (subst (ReadsNoState old) here none)))

-- ---- layers and sources stay

pub asked_still : {E : Type 0} (n : ℕ) (old new : Buckets E) → LeavesSources n old new → Still old new
asked_still n old new leaves = record {
  evaluator = leaves.evaluator;
  source = λ l item. leaves.source l item;
  features = λ l. leaves.features l;
}

module _ (old new : KeptLayers) (numbers : new.numbers ≡ old.numbers) (reads : new.reads_globals ≡ old.reads_globals)
    (states : new.state_places ≡ old.state_places) (sound : IsSound new.cells.buckets) where
  pub still_numbered : Still old.cells.buckets new.cells.buckets → AbsentAreBare new.cells.buckets → AreNumbered old → AreNumbered new
  still_numbered still bare numbered = record {
    sound = sound;
    apart = subst (λ v. AreApart v.items) (sym numbers) numbered.apart;
    there = subst (λ v. AreThere new.cells.buckets v.items) (sym numbers)
        (there_still old.cells.buckets new.cells.buckets still old.numbers.items numbered.there);
    bare = bare;
    noted = λ off l item. ap cells.reads_globals (still.source l item) ∙ numbered.noted (sym reads ∙ off) l item;
    states = subst (λ v. AreNoted (ReadsNoState new.cells.buckets) new.numbers.items (places_in v)) (sym states)
        (subst (λ v. AreNoted (ReadsNoState new.cells.buckets) v.items (places_in old.state_places)) (sym numbers)
        (noted_same (ReadsNoState old.cells.buckets) old.numbers.items (places_in old.state_places) numbered.states (ReadsNoState new.cells.buckets)
        (λ p d within none item. ap cells.reads_state (still.source (get_or old.numbers.items p d) item) ∙ none item)));
  }

  -- cells of a layer that is there are asked
  pub asked_numbered : (n : ℕ) → LeavesSources n old.cells.buckets new.cells.buckets → is_some (features_of old.cells.buckets n) ≡ true
      → AreNumbered old → AreNumbered new
  asked_numbered n leaves there numbered = still_numbered (asked_still n old.cells.buckets new.cells.buckets leaves)
      (asked_bare n old.cells.buckets new.cells.buckets leaves pool_slots there numbered.bare) numbered

  -- cells are dropped
  pub dropped_numbered : (stale : Stale) → Still old.cells.buckets new.cells.buckets
      → ((cell : Cell) → kept_at new.cells.buckets cell ≡ (if names_cell old.cells.buckets stale cell then None else kept_at old.cells.buckets cell))
      → AreNumbered old → AreNumbered new
  dropped_numbered stale still drops numbered = still_numbered still
      (bare_still old.cells.buckets new.cells.buckets still
      (λ l c none. drops (cell_in l c) ∙ none_or (names_cell old.cells.buckets stale (cell_in l c)) (kept_in old.cells.buckets l c) none) numbered.bare)
      numbered
