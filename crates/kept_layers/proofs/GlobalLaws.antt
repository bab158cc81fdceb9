-- The values of the global state are others: one item of a layer after another, and one layer after another.
use Rattle.std.proofs.Common.{◌≡◌, ◌≢◌, ℕ, zero, suc, ◌+◌, ◌<◌, ◌≤◌, List, length, get_or, Bool, true, false, Option, Some, None, Result, Ok, Err, refl, sym, ap, ◌∙◌, subst, arith, inl, inr, if◌then◌else◌}
use Rattle.std.specs.Prelude.{◌⊎◌, OnOk}
use Rattle.std.proofs.lemmas.Bool.{false_from_ne_true}
use Rattle.decimal_json.specs.Tree.{Tree, null}
use Rattle.prop_values.specs.Data.{Data}
use Rattle.operator_values.specs.Evaluated.{Evaluated}
use Rattle.expr_nodes.specs.Evaluators.{Sized}
use Rattle.form_pool.specs.declared.form_pool.FormPool.{FormPool}
use Rattle.layer_buckets.specs.Cells as cells
use Rattle.layer_buckets.specs.Cells.{is_item}
use Rattle.layer_buckets.specs.Seen.{evaluator_of, features_of, kept_at, source_of}
use Rattle.layer_buckets.specs.declared.buckets.Buckets.{Buckets}
use Rattle.layer_buckets.specs.declared.cell.Cell.{Cell}
use Rattle.layer_buckets.specs.declared.cell.CellItem.{CellItem}
use Rattle.layer_buckets.specs.declared.cell.CellItem.TheVariants as items
use Rattle.layer_buckets.specs.declared.cell.Source.{Source}
use Rattle.layer_buckets.proofs.ItemLaws.{is_item_same, is_item_true}
use Rattle.style_layout.specs.Forms.{Scene}
use Rattle.style_layout.specs.Shown.{SourceTile}
use Rattle.asked_cells.specs.Asked.{LayerCell, cell_in, feature_at, meaning, meaning_by}
use Rattle.asked_cells.specs.Counted.{kept_in}
use Rattle.asked_cells.specs.Expressions.{CellExpression, IsSourced, LayerExpressions}
use Rattle.cell_sources.specs.CellLaws.{DifferByGlobals, GlobalsChangeNoOther, reads_globals}
use Rattle.cell_sources.specs.Sourced.{IsLonger, LeavesOthers, SetsItem}
use Rattle.cell_sources.proofs.SourcedLaws.{longer_again, longer_itself, sourced_longer}
use Rattle.kept_layers.proofs.DropLaws.{AreDropped, all_kept}
use Rattle.kept_layers.proofs.HoldingLaws.{no_value}
use Rattle.kept_layers.proofs.Lists.{apart_at, pairs_at, pairs_from}
use Rattle.kept_layers.specs.Changes.{TurnsGlobals}
use Rattle.kept_layers.specs.Holding.{AreApart, AreHeld, AreRightIn, HasLayer, IsRight, NoneReadsGlobals, Pairwise, style_kept}
use Rattle.kept_layers.specs.KeptLayers.{is_stale_global, layer_expressions, prepared_layer, type_of}
use Rattle.kept_layers.specs.Turning.{IsTurned, LeavesItem, TurnsItem, kept_of_item}
use Rattle.kept_layers.specs.View.{AreNumbered}
use Rattle.kept_layers.specs.declared.kept_layers.KeptLayers.{KeptLayers}

pub on_ok_both : {T X P Q R : Type 0} (r : Result T X) → (P → Q → R) → OnOk r P → OnOk r Q → OnOk r R
on_ok_both (Ok value) f p q = f p q
on_ok_both (Err error) f p q = tt

-- a source has the flag of its expression
pub globals_stale : (slots : List Sized) (item : CellItem) (e : Option CellExpression) (source : Option Source) → IsSourced slots item e source
    → cells.reads_globals source ≡ reads_globals e
globals_stale slots item None source is = ap cells.reads_globals is
globals_stale slots item (Some e) source (slot, is, at) = ap cells.reads_globals is

-- a number is below another, or it is that one or comes later
pub below_or_past : (p k : ℕ) → (p < k) ⊎ (k ≤ p)
below_or_past p zero = inr (omega arith)
below_or_past zero (suc k) = inl (omega arith)
below_or_past (suc p) (suc k) = step (below_or_past p k) where
  step : (p < k) ⊎ (k ≤ p) → (suc p < suc k) ⊎ (suc k ≤ suc p)
  step (inl h) = inl (omega (arith, h))
  step (inr h) = inr (omega (arith, h))

pub below_or_last : (p k : ℕ) → p < k + 1 → (p ≡ k) ⊎ (p < k)
below_or_last p k h = step (below_or_past p k) where
  step : (p < k) ⊎ (k ≤ p) → (p ≡ k) ⊎ (p < k)
  step (inl less) = inr less
  step (inr more) = inl (omega (arith, h, more))

abbrev number_or : ℕ → CellItem → ℕ
number_or other items.Filter = other
number_or other (items.Property n) = n

property_number : (m n : ℕ) → items.Property m ≡ items.Property n → m ≡ n
property_number m n same = ap (number_or m) same

module _ {E : Type 0} where
  -- ---- items that are left

  pub left_itself : (n : ℕ) (item : CellItem) (b : Buckets E) → LeavesItem n item b b
  left_itself n item b = record { source = refl; kept = λ f. refl }

  left_again : (n : ℕ) (item : CellItem) (a b c : Buckets E) → LeavesItem n item a b → LeavesItem n item b c → LeavesItem n item a c
  left_again n item a b c first more = record {
    source = more.source ∙ first.source;
    kept = λ f. more.kept f ∙ first.kept f;
  }

  -- all items of another layer
  left_other : (slots : E → List Sized) (n m : ℕ) (item : CellItem) (a b : Buckets E) → LeavesOthers slots n a b → n ≢ m → LeavesItem m item a b
  left_other slots n m item a b others other = record {
    source = others.source m item other;
    kept = λ f. others.kept (cell_in m (record { feature = f; item = item })) other;
  }

module _ {E : Type 0} (slots : E → List Sized) (n : ℕ) where
  -- ---- one item

  -- the expression of an item that is left reads no global state
  pub unread_turned : (item : CellItem) (e before : Option CellExpression) (a b : Buckets E)
      → reads_globals before ≡ false → DifferByGlobals e before
      → IsSourced (slots (evaluator_of a)) item before (source_of a n item)
      → IsLonger (slots (evaluator_of a)) (slots (evaluator_of b)) → LeavesItem n item a b → IsTurned slots n item before e a b
  unread_turned item e before a b unread differ had longer left = record {
    source = subst (λ x. IsSourced (slots (evaluator_of b)) item x (source_of b n item)) (sym (differ.same unread))
        (subst (IsSourced (slots (evaluator_of b)) item before) (sym left.source)
        (sourced_longer (slots (evaluator_of a)) (slots (evaluator_of b)) item before (source_of a n item) longer had));
    kept = λ f. left.kept f ∙ sym (ap (λ t. if t then None else kept_of_item a n item f) unread);
  }

  module _ (item : CellItem) (e : Option CellExpression) (a b : Buckets E) where
    -- a source without the flag is left
    pub left_turns : cells.reads_globals (source_of a n item) ≡ false → IsLonger (slots (evaluator_of a)) (slots (evaluator_of b))
        → LeavesItem n item a b → TurnsItem slots n item e a b
    left_turns flag longer left before differ had = unread_turned item e before a b
        (sym (globals_stale (slots (evaluator_of a)) item before (source_of a n item) had) ∙ flag) differ had longer left

    -- an item without an expression has no source
    pub none_turns : e ≡ None → IsLonger (slots (evaluator_of a)) (slots (evaluator_of b)) → LeavesItem n item a b → TurnsItem slots n item e a b
    none_turns none longer left before differ had =
        unread_turned item e before a b (sym differ.reads ∙ ap reads_globals none) differ had longer left

    module _ (kept : (cell : Cell) → kept_at b cell ≡ (if is_item n item cell.layer cell.item then None else kept_at a cell))
        (sets : SetsItem slots n item e a b) where
      -- a source with the flag is another
      pub set_turns : cells.reads_globals (source_of a n item) ≡ true → TurnsItem slots n item e a b
      set_turns flag before differ had = record {
        source = sets.own;
        kept = λ f. kept (cell_in n (record { feature = f; item = item }))
            ∙ ap (λ t. if t then None else kept_of_item a n item f)
            (is_item_same n n item item refl refl
            ∙ (sym flag ∙ globals_stale (slots (evaluator_of a)) item before (source_of a n item) had));
      }

      pub set_leaves : (other : CellItem) → item ≢ other → LeavesItem n other a b
      set_leaves other apart = record {
        source = sets.others other apart;
        kept = λ f. kept (cell_in n (record { feature = f; item = other }))
            ∙ ap (λ t. if t then None else kept_of_item a n other f)
            (false_from_ne_true (is_item n item n other) (λ h. apart ((is_item_true n n item other h).1)));
      }

  module _ (item : CellItem) (e : Option CellExpression) (a b c : Buckets E) where
    turns_then_left : TurnsItem slots n item e a b → IsLonger (slots (evaluator_of b)) (slots (evaluator_of c)) → LeavesItem n item b c
        → TurnsItem slots n item e a c
    turns_then_left turns longer left before differ had =
        let is : IsTurned slots n item before e a b = turns before differ had in
        record {
          source = subst (IsSourced (slots (evaluator_of c)) item e) (sym left.source)
              (sourced_longer (slots (evaluator_of b)) (slots (evaluator_of c)) item e (source_of b n item) longer is.source);
          kept = λ f. left.kept f ∙ is.kept f;
        }

    left_then_turns : IsLonger (slots (evaluator_of a)) (slots (evaluator_of b)) → LeavesItem n item a b → TurnsItem slots n item e b c
        → TurnsItem slots n item e a c
    left_then_turns longer left turns before differ had =
        let was : IsSourced (slots (evaluator_of b)) item before (source_of b n item) =
        subst (IsSourced (slots (evaluator_of b)) item before) (sym left.source)
        (sourced_longer (slots (evaluator_of a)) (slots (evaluator_of b)) item before (source_of a n item) longer had) in
        let is : IsTurned slots n item before e b c = turns before differ was in
        record {
          source = is.source;
          kept = λ f. is.kept f ∙ ap (λ k. if reads_globals before then None else k) (left.kept f);
        }

  -- ---- one property after another, and the filter at last

  -- the properties of the first rows are turned, and the other items are left
  pub record FirstAreTurned (count : ℕ) (expressions : LayerExpressions) (old now : Buckets E) : Type 0 where
    pub first : (m : ℕ) → m < count → TurnsItem slots n (items.Property m) (expressions (items.Property m)) old now
    pub later : (m : ℕ) → count ≤ m → LeavesItem n (items.Property m) old now
    pub filter : LeavesItem n items.Filter old now

  module _ (expressions : LayerExpressions) (old : Buckets E) where
    pub no_first : FirstAreTurned 0 expressions old old
    no_first = record {
      first = λ m h. absurd (omega (arith, h));
      later = λ m h. left_itself n (items.Property m) old;
      filter = left_itself n items.Filter old;
    }

    module _ (count : ℕ) (a b : Buckets E) (turned : FirstAreTurned count expressions old a)
        (longer : IsLonger (slots (evaluator_of old)) (slots (evaluator_of a))) (more : IsLonger (slots (evaluator_of a)) (slots (evaluator_of b))) where
      module _ (turns : TurnsItem slots n (items.Property count) (expressions (items.Property count)) a b)
          (left : (other : CellItem) → items.Property count ≢ other → LeavesItem n other a b) where
        pub first_more : FirstAreTurned (count + 1) expressions old b
        first_more = record {
          first = λ m h. this m (below_or_last m count h);
          later = λ m h. left_again n (items.Property m) old a b (turned.later m (omega (arith, h)))
              (left (items.Property m) (λ same. let e = property_number count m same in absurd (omega (arith, e, h))));
          filter = left_again n items.Filter old a b turned.filter (left items.Filter (λ same. absurd (cc)));
        } where
          this : (m : ℕ) → (m ≡ count) ⊎ (m < count) → TurnsItem slots n (items.Property m) (expressions (items.Property m)) old b
          this m (inl is) = subst (λ k. TurnsItem slots n (items.Property k) (expressions (items.Property k)) old b) (sym is)
              (left_then_turns (items.Property count) (expressions (items.Property count)) old a b longer (turned.later count (omega arith)) turns)
          this m (inr below) = turns_then_left (items.Property m) (expressions (items.Property m)) old a b (turned.first m below) more
              (left (items.Property m) (λ same. let e = property_number count m same in absurd (omega (arith, e, below))))

      -- no item past the rows has an expression
      pub all_turned : TurnsItem slots n items.Filter (expressions items.Filter) a b
          → ((other : CellItem) → items.Filter ≢ other → LeavesItem n other a b)
          → ((m : ℕ) → count ≤ m → expressions (items.Property m) ≡ None) → (item : CellItem) → TurnsItem slots n item (expressions item) old b
      all_turned turns left past items.Filter =
          left_then_turns items.Filter (expressions items.Filter) old a b longer turned.filter turns
      all_turned turns left past (items.Property m) = by_place (below_or_past m count) where
        stays : LeavesItem n (items.Property m) a b
        stays = left (items.Property m) (λ same. absurd (cc))

        by_place : (m < count) ⊎ (count ≤ m) → TurnsItem slots n (items.Property m) (expressions (items.Property m)) old b
        by_place (inl below) = turns_then_left (items.Property m) (expressions (items.Property m)) old a b (turned.first m below) more stays
        by_place (inr later) = none_turns (items.Property m) (expressions (items.Property m)) old b (past m later)
            (longer_again (slots (evaluator_of old)) (slots (evaluator_of a)) (slots (evaluator_of b)) longer more)
            (left_again n (items.Property m) old a b (turned.later m later) stays)

-- ---- one layer after another

module _ {E : Type 0} (slots : E → List Sized) (after : List (List ℕ × Data)) (old : Buckets E) (ns : List ℕ) (ts : List Tree) where
  -- the items of the first layers are turned, and those of the others are left
  pub record LayersAreTurned (place : ℕ) (now : Buckets E) : Type 0 where
    pub features : (l : ℕ) → features_of now l ≡ features_of old l
    pub longer : IsLonger (slots (evaluator_of old)) (slots (evaluator_of now))
    pub first : (p : ℕ) → p < place → p < length ns → (item : CellItem)
        → TurnsItem slots (get_or ns p 0) item (layer_expressions after (get_or ts p null) item) old now
    pub others : (p : ℕ) → place ≤ p → p < length ns → (item : CellItem) → LeavesItem (get_or ns p 0) item old now

  pub no_layers : LayersAreTurned 0 old
  no_layers = record {
    features = λ l. refl;
    longer = longer_itself (slots (evaluator_of old));
    first = λ p h within item. absurd (omega (arith, h));
    others = λ p h within item. left_itself (get_or ns p 0) item old;
  }

  -- where no expression reads the global state, all layers are as if they were turned
  pub none_to_turn : NoneReadsGlobals old → (place : ℕ) → LayersAreTurned place old
  none_to_turn none place = record {
    features = λ l. refl;
    longer = longer_itself (slots (evaluator_of old));
    first = λ p h within item. left_turns slots (get_or ns p 0) item (layer_expressions after (get_or ts p null) item) old old (none (get_or ns p 0) item)
        (longer_itself (slots (evaluator_of old))) (left_itself (get_or ns p 0) item old);
    others = λ p h within item. left_itself (get_or ns p 0) item old;
  }

  module _ (place : ℕ) (now new : Buckets E) (turned : LayersAreTurned place now) (within : place < length ns) (apart : AreApart ns)
      (leaves : LeavesOthers slots (get_or ns place 0) now new)
      (turns : (item : CellItem) → TurnsItem slots (get_or ns place 0) item (layer_expressions after (get_or ts place null) item) now new) where
    left_at : (p : ℕ) → p < length ns → p ≢ place → (item : CellItem) → LeavesItem (get_or ns p 0) item now new
    left_at p inside other item = left_other slots (get_or ns place 0) (get_or ns p 0) item now new leaves
        (apart_at ns place p 0 0 within inside (λ e. other (sym e)) apart)

    this_layer : (p : ℕ) → p < length ns → (item : CellItem) → (p ≡ place) ⊎ (p < place)
        → TurnsItem slots (get_or ns p 0) item (layer_expressions after (get_or ts p null) item) old new
    this_layer p inside item (inl is) =
        subst (λ k. TurnsItem slots (get_or ns k 0) item (layer_expressions after (get_or ts k null) item) old new) (sym is)
        (left_then_turns slots (get_or ns place 0) item (layer_expressions after (get_or ts place null) item) old now new turned.longer
        (turned.others place (omega arith) within item) (turns item))
    this_layer p inside item (inr below) =
        turns_then_left slots (get_or ns p 0) item (layer_expressions after (get_or ts p null) item) old now new (turned.first p below inside item)
        leaves.expressions (left_at p inside (λ e. absurd (omega (arith, e, below))) item)

    pub layers_more : LayersAreTurned (place + 1) new
    layers_more = record {
      features = λ l. leaves.features l ∙ turned.features l;
      longer = longer_again (slots (evaluator_of old)) (slots (evaluator_of now)) (slots (evaluator_of new)) turned.longer leaves.expressions;
      first = λ p h inside item. this_layer p inside item (below_or_last p place h);
      others = λ p h inside item. left_again (get_or ns p 0) item old now new (turned.others p (omega (arith, h)) inside item)
          (left_at p inside (λ e. absurd (omega (arith, h, e))) item);
    }

  -- all layers are turned
  module _ (change : GlobalsChangeNoOther) (tiles : List SourceTile) (before : List (List ℕ × Data)) (held : AreHeld slots tiles before old ns ts)
      (place : ℕ) (now : Buckets E) (end : length ns ≤ place) (same : length ns ≡ length ts) (turned : LayersAreTurned place now) where
    held_at : (p : ℕ) → p < length ns → HasLayer slots tiles before old (get_or ns p 0) (get_or ts p null)
    held_at p within = pairs_at (HasLayer slots tiles before old) ns ts p 0 null within held

    turned_at : (p : ℕ) → p < length ns → (item : CellItem) → IsTurned slots (get_or ns p 0) item
        (layer_expressions before (get_or ts p null) item) (layer_expressions after (get_or ts p null) item) old now
    turned_at p within item = turned.first p (omega (arith, within, end)) within item (layer_expressions before (get_or ts p null) item)
        (change after before (type_of (get_or ts p null)) (get_or ts p null) item) ((held_at p within).sources item)

    new_held : (p : ℕ) → p < length ns → HasLayer slots tiles after now (get_or ns p 0) (get_or ts p null)
    new_held p within = record {
      sources = λ item. (turned_at p within item).source;
      features = turned.features (get_or ns p 0) ∙ (held_at p within).features;
    }

    pub all_held : AreHeld slots tiles after now ns ts
    all_held = pairs_from (HasLayer slots tiles after now) 0 null ns ts same new_held

    pub all_dropped : Pairwise (AreDropped slots tiles before old now (is_stale_global before)) ns ts
    all_dropped = pairs_from (AreDropped slots tiles before old now (is_stale_global before)) 0 null ns ts same
        (λ p within c. (turned_at p within c.item).kept c.feature)

    -- a cell whose expression does not read the global state means the same
    same_meaning : (scene : Scene) (t : Tree) (c : LayerCell) → is_stale_global before t c ≡ false
        → meaning scene tiles (prepared_layer before t) (layer_expressions before t) c
        ≡ meaning scene tiles (prepared_layer after t) (layer_expressions after t) c
    same_meaning scene t c fresh =
        sym (ap (λ e. meaning_by scene e (feature_at scene tiles (prepared_layer before t) c.feature)) ((change after before (type_of t) t c.item).same fresh))

    value_by : (scene : Scene) (n : ℕ) (t : Tree) (c : LayerCell) (value : Evaluated) (b : Bool) → is_stale_global before t c ≡ b
        → (if b then None else kept_in old n c) ≡ Some value
        → (kept_in old n c ≡ Some value → value ≡ meaning scene tiles (prepared_layer before t) (layer_expressions before t) c)
        → value ≡ meaning scene tiles (prepared_layer after t) (layer_expressions after t) c
    value_by scene n t c value true stale kept right = absurd (no_value value kept)
    value_by scene n t c value false fresh kept right = right kept ∙ same_meaning scene t c fresh

    pub all_right : (scene : Scene) → AreRightIn slots tiles before old scene ns ts → AreRightIn slots tiles after now scene ns ts
    all_right scene right = pairs_from (IsRight slots tiles after now scene) 0 null ns ts same
        (λ p within c value is.
        value_by scene (get_or ns p 0) (get_or ts p null) c value (is_stale_global before (get_or ts p null) c) refl
        (sym ((turned_at p within c.item).kept c.feature) ∙ is)
        (pairs_at (IsRight slots tiles before old scene) ns ts p 0 null within right c value))

-- ---- all layers are turned

module _ (slots : FormPool → List Sized) (change : GlobalsChangeNoOther) (tiles : List SourceTile) (before after : List (List ℕ × Data)) (ts : List Tree)
    (old new : KeptLayers) (held : AreHeld slots tiles before old.cells.buckets old.numbers.items ts) (same : length old.numbers.items ≡ length ts)
    (numbers : new.numbers ≡ old.numbers) (place : ℕ) (end : length old.numbers.items ≤ place)
    (turned : LayersAreTurned slots after old.cells.buckets old.numbers.items ts place new.cells.buckets) where
  pub turns_globals : AreNumbered new → TurnsGlobals slots tiles before after ts old new
  turns_globals numbered =
      let was = old.cells.buckets in
      let now = new.cells.buckets in
      let ns = old.numbers.items in
      record {
        numbered = numbered;
        kept = ap (λ v. style_kept now v.items) numbers ∙ all_kept slots tiles before was now (is_stale_global before) ns ts
            (all_dropped slots after was ns ts change tiles before held place now end same turned);
        holds = subst (λ v. Pairwise (HasLayer slots tiles after now) v.items ts) (sym numbers)
            (all_held slots after was ns ts change tiles before held place now end same turned);
        right = λ scene right. subst (λ v. Pairwise (IsRight slots tiles after now scene) v.items ts) (sym numbers)
            (all_right slots after was ns ts change tiles before held place now end same turned scene right);
      }
