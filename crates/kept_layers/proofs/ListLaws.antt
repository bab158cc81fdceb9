-- One layer after another is asked and listed.
use Rattle.std.proofs.Common.{◌≡◌, ℕ, suc, ◌+◌, ◌<◌, ◌≤◌, List, [], ◌∷◌, ◌++◌, length, map, take, drop, get_or, Bool, true, false, ◌||◌, Option, Some, None, is_some, Result, Ok, Err, refl, sym, ap, ◌∙◌, subst, arith, if◌then◌else◌}
use Rattle.std.specs.Prelude.{IfOk, flat_map, slice_set}
use Rattle.std.specs.Result.{IsErr}
use Rattle.std.proofs.lemmas.Option.{slice_get_within}
use Rattle.std.proofs.lemmas.List.{append_assoc, append-nil, drop_all, drop_more, get_or-map, length-map, set-get_or}
use Rattle.decimal_json.specs.Tree.{Tree, null}
use Rattle.prop_values.specs.Data.{Data}
use Rattle.operator_values.specs.Evaluated.{Evaluated}
use Rattle.expr_nodes.specs.Evaluators.{Sized}
use Rattle.layer_buckets.specs.Seen.{evaluator_of, features_of, kept_at, slot_in_source, source_of}
use Rattle.layer_buckets.specs.declared.buckets.Buckets.{Buckets}
use Rattle.layer_buckets.specs.declared.cell.Cell.{Cell}
use Rattle.layer_buckets.specs.declared.cell.CellItem.{CellItem}
use Rattle.layer_buckets.specs.declared.cell.CellItem.TheVariants as items
use Rattle.layer_buckets.specs.declared.cell.Source.{Source}
use Rattle.listing_text.specs.Listing.{layer_lines}
use Rattle.style_layout.specs.Forms.{Property, Scene}
use Rattle.style_layout.specs.Layers.{StyleLayer}
use Rattle.style_layout.specs.Shown.{SourceTile, layer_features}
use Rattle.style_layout.specs.StyleLayout.{cell_count, layer_out}
use Rattle.asked_cells.specs.Asked.{AskedCell, IsDecided, LayerCell, cell_in, has_own_cells, layer_asked, meaning}
use Rattle.asked_cells.specs.Asking.{AsksLayer, HasSlots, LeavesSources}
use Rattle.asked_cells.specs.Counted.{Asks, HaveAsked, is_asked, kept_in}
use Rattle.asked_cells.specs.Expressions.{CellExpression, IsSourced, LayerExpressions}
use Rattle.asked_cells.proofs.AskLaws.{asked_kept, right_after}
use Rattle.cell_sources.specs.CellLaws.{AreReadBy, FiltersAreDecided, PropertiesAreGiven, PropertiesAreReadByExpressions}
use Rattle.cell_sources.specs.Sourced.{IsLonger}
use Rattle.cell_sources.proofs.SourcedLaws.{longer_itself}
use Rattle.cell_listing.specs.Listable.{AllReadAsListed, IsListable, ReadsAsListed}
use Rattle.bare_listing.specs.BareListing.{EvaluatesCells, EvaluatesLayer, IsBareListable}
use Rattle.bare_listing.proofs.Counting.{bare_evaluations, bare_nodes}
use Rattle.bare_listing.proofs.LayerCells.{AreOthers, layer_pairs}
use Rattle.bare_listing.proofs.Pairs.{PairsByRecursion}
use Rattle.bare_listing.proofs.RowNumbers.{properties_rise}
use Rattle.kept_layers.proofs.HoldingLaws.{Leaves, bare_left, kept_left, none_is_not, right_left}
use Rattle.kept_layers.proofs.Lists.{map_at, pairs_at, pairs_change, pairs_lengths, pairs_same}
use Rattle.kept_layers.proofs.OneLayers.{few_at, prepared_at}
use Rattle.kept_layers.proofs.Stepping.{of_end, of_next, sum_end, sum_next}
use Rattle.kept_layers.specs.Changes.{Counts, IsCounted}
use Rattle.kept_layers.specs.Holding.{AbsentAreBare, AreApart, AreHeld, AreRightIn, HasLayer, IsRight, kept_of, style_kept}
use Rattle.kept_layers.specs.KeptLayers.{LayerKept, StyleKept, asked_of, evaluations_in, evaluations_of, kept_after, kept_with, layer_expressions, none_kept, nodes_in, nodes_of, prepared_layer, prepared_layers, sum_of_each, type_of}
use Rattle.kept_layers.specs.LayerListing.{IsKeptLayer}

slot_by : (slots : List Sized) (item : CellItem) (e : Option CellExpression) (source : Option Source) → IsSourced slots item e source
    → is_some source ≡ true → slot_in_source source < length slots
slot_by slots item None source is there = absurd (no_true (ap is_some (sym is) ∙ there)) where
  no_true : false ≡ true → ⊥
  no_true e = cc
slot_by slots item (Some e) source (slot, is, at) there =
    subst (λ o. slot_in_source o < length slots) (sym is) (slice_get_within slots slot _ at)

-- each source of a layer that is held has an expression
pub held_slots : {E : Type 0} (slots : E → List Sized) (tiles : List SourceTile) (globals : List (List ℕ × Data)) (b : Buckets E) (n : ℕ) (t : Tree)
    → HasLayer slots tiles globals b n t → HasSlots slots b n
held_slots slots tiles globals b n t held item there =
    slot_by (slots (evaluator_of b)) item (layer_expressions globals t item) (source_of b n item) (held.sources item) there

some_after : (a : Bool) (v : Evaluated) (o : Option Evaluated) → is_some (if a then Some v else o) ≡ (is_some o || a)
some_after true v None = refl
some_after true v (Some e) = refl
some_after false v None = refl
some_after false v (Some e) = refl

module _ {E : Type 0} (slots : E → List Sized) (n : ℕ) (old new : Buckets E) (leaves : LeavesSources n old new) where
  pub asked_leaves : Leaves slots n old new
  asked_leaves = record {
    features = λ l other. leaves.features l;
    source = λ l item other. leaves.source l item;
    kept = λ l c other. leaves.kept (cell_in l c) other;
    longer = subst (λ ev. IsLonger (slots (evaluator_of old)) (slots ev)) (sym leaves.evaluator) (longer_itself (slots (evaluator_of old)));
  }

  pub asked_held : (tiles : List SourceTile) (globals : List (List ℕ × Data)) (m : ℕ) (t : Tree) → HasLayer slots tiles globals old m t
      → HasLayer slots tiles globals new m t
  asked_held tiles globals m t held = record {
    sources = λ item. subst (IsSourced (slots (evaluator_of new)) item (layer_expressions globals t item)) (sym (leaves.source m item))
        (subst (λ ev. IsSourced (slots ev) item (layer_expressions globals t item) (source_of old m item)) (sym leaves.evaluator) (held.sources item));
    features = leaves.features m ∙ held.features;
  }

  module _ (scene : Scene) (tiles : List SourceTile) (globals : List (List ℕ × Data)) (t : Tree) (number before after : ℕ)
      (have : HaveAsked (meaning scene tiles (prepared_layer globals t) (layer_expressions globals t)) (asked_of scene tiles globals t)
      (kept_in old n) (kept_in new n) number before after) where
    -- what was asked of the layer is kept
    pub layer_kept : kept_of new n ≡ kept_with scene tiles globals t (kept_of old n)
    layer_kept = λ i c. (ap is_some (have.kept c)
        ∙ some_after (is_asked (asked_of scene tiles globals t) c) (meaning scene tiles (prepared_layer globals t) (layer_expressions globals t) c) (kept_in old n c)) i

    pub layer_right : IsRight slots tiles globals old scene n t → IsRight slots tiles globals new scene n t
    layer_right right = right_after (meaning scene tiles (prepared_layer globals t) (layer_expressions globals t)) (asked_of scene tiles globals t)
        (kept_in old n) (kept_in new n) have.kept right

-- the same buckets
pub leaves_same : {E : Type 0} (n : ℕ) (old new : Buckets E) → new ≡ old → LeavesSources n old new
leaves_same n old new same = record {
  evaluator = ap evaluator_of same;
  source = λ l item. ap (λ b. source_of b l item) same;
  features = λ l. ap (λ b. features_of b l) same;
  kept = λ cell other. ap (λ b. kept_at b cell) same;
}

-- ---- a layer that is there stays so

module _ {E : Type 0} (n : ℕ) (old new : Buckets E) (leaves : LeavesSources n old new) where
  pub asked_bare : (slots : E → List Sized) → is_some (features_of old n) ≡ true → AbsentAreBare old → AbsentAreBare new
  asked_bare slots there bare = bare_left slots n old new (asked_leaves slots n old new leaves) bare
      (λ none. absurd (none_is_not (features_of new n) none (ap is_some (leaves.features n) ∙ there)))

-- ---- an asked layer can be listed

read_as_listed : (p : Property) (e : Option CellExpression) → p.is_per_feature ≡ has_own_cells e → ReadsAsListed p e
read_as_listed p (Some e) reads = reads
read_as_listed p None reads = tt

all_read_as_listed : (expressions : LayerExpressions) (ps : List Property) → AreReadBy expressions ps → AllReadAsListed expressions ps
all_read_as_listed expressions [] reads = tt
all_read_as_listed expressions (p ∷ ps) reads =
    (read_as_listed p (expressions (items.Property p.row.number)) reads.0, all_read_as_listed expressions ps reads.1)

pub decided_of : FiltersAreDecided → (scene : Scene) (globals : List (List ℕ × Data)) (t : Tree)
    → IsDecided scene (layer_expressions globals t items.Filter) (prepared_layer globals t)
decided_of law scene globals t = law scene globals (type_of t) t

pub listable_after : {E : Type 0} (slots : E → List Sized) (n : ℕ) (old new : Buckets E) (scene : Scene) (tiles : List SourceTile)
    (globals : List (List ℕ × Data)) (t : Tree) (number before after : ℕ)
    → FiltersAreDecided → PropertiesAreGiven → PropertiesAreReadByExpressions
    → HaveAsked (meaning scene tiles (prepared_layer globals t) (layer_expressions globals t)) (asked_of scene tiles globals t)
    (kept_in old n) (kept_in new n) number before after
    → HasLayer slots tiles globals new n t → IsListable slots n scene tiles (prepared_layer globals t) new
listable_after slots n old new scene tiles globals t number before after decided given read have held = record {
  expressions = layer_expressions globals t;
  sourced = held.sources;
  decided = decided_of decided scene globals t;
  given = given globals (type_of t) t;
  reads = all_read_as_listed (layer_expressions globals t) (prepared_layer globals t).properties (read globals (type_of t) t);
  kept = asked_kept (meaning scene tiles (prepared_layer globals t) (layer_expressions globals t)) (asked_of scene tiles globals t)
      (kept_in old n) (kept_in new n) number before after have;
}

-- ---- sums

sum_stays : (nodes rest all mid after before total : ℕ) → nodes + rest ≡ all → after ≤ mid + nodes → mid + all ≤ before + total
    → after + rest ≤ before + total
sum_stays nodes rest all mid after before total e a b = omega (arith, e, a, b)

sum_counts : (n m both one rest all total : ℕ) → both ≡ n + m → m ≡ one → one + rest ≡ all → n + all ≡ total → both + rest ≡ total
sum_counts n m both one rest all total a b e f = omega (arith, a, b, e, f)

sum_takes : (n m both before mid after : ℕ) → both ≡ n + m → before + n ≤ mid → mid + m ≤ after → before + both ≤ after
sum_takes n m both before mid after e a b = omega (arith, e, a, b)

no_more : (a rest b : ℕ) → a + rest ≤ b → a ≤ b
no_more a rest b h = omega (arith, h)

no_rest : (a rest b : ℕ) → rest ≡ 0 → a + rest ≡ b → a ≡ b
no_rest a rest b none h = omega (arith, none, h)

one_more : (n : ℕ) → n < 4294967295 → n < 4294967296
one_more n h = omega (arith, h)

suc_more : (k : ℕ) → suc k ≡ k + 1
suc_more k = omega arith

within_map : {A : Type 0} (f : ℕ → A) (ns : List ℕ) (k : ℕ) → k < length ns → k < length (map f ns)
within_map f ns k within = omega (arith, within, length-map ns f)

past_map : {A : Type 0} (f : ℕ → A) (ns : List ℕ) (k : ℕ) → length ns ≤ k → length (map f ns) ≤ k
past_map f ns k past = omega (arith, past, length-map ns f)

-- ---- one layer is asked

if_failed : {X Y : Type 0} (r : Result X Y) (P : X → Type 0) → IsErr r → IfOk r P
if_failed (Ok x) P failed = absurd (cc)
if_failed (Err y) P failed = tt

-- an allocation fails once a layer was asked
pub failed_asks : {E X Y : Type 0} (slots : E → List Sized) (n : ℕ) (scene : Scene) (tiles : List SourceTile) (layer : StyleLayer) (old new : Buckets E)
    (before after : ℕ) (r : Result ℕ X) (s : Result ℕ Y) → IsErr s → AsksLayer slots n scene tiles layer old new r before after
    → AsksLayer slots n scene tiles layer old new s before after
failed_asks slots n scene tiles layer old new before after r s failed asks expressions sourced right decided =
    let a = asks expressions sourced right decided in
    record {
      most = a.most;
      stays = a.stays;
      ok = if_failed s (λ m. HaveAsked (meaning scene tiles layer expressions) (layer_asked expressions scene tiles layer) (kept_in old n) (kept_in new n) m before after) failed;
    }

module _ {E : Type 0} (slots : E → List Sized) (scene : Scene) (tiles : List SourceTile) (globals : List (List ℕ × Data)) (t : Tree) (n : ℕ)
    (layer : StyleLayer) (found : layer ≡ prepared_layer globals t) (old : Buckets E) (held : HasLayer slots tiles globals old n t) where
  pub layer_slots : HasSlots slots old n
  layer_slots = held_slots slots tiles globals old n t held

  pub layer_counted : features_of old n ≡ Some (length (layer_features tiles layer))
  layer_counted = held.features ∙ ap (λ l. Some (length (layer_features tiles l))) (sym found)

  module _ (right : IsRight slots tiles globals old scene n t) (law : FiltersAreDecided) {X : Type 0} (new : Buckets E) (result : Result ℕ X)
      (before after : ℕ) (asks : AsksLayer slots n scene tiles layer old new result before after) where
    pub layer_asks : Asks (meaning scene tiles (prepared_layer globals t) (layer_expressions globals t)) (asked_of scene tiles globals t)
        (kept_in old n) (kept_in new n) result before after
    layer_asks = subst (λ l. AsksLayer slots n scene tiles l old new result before after) found asks
        (layer_expressions globals t) held.sources right (decided_of law scene globals t)

  module _ (right : IsRight slots tiles globals old scene n t) (law : FiltersAreDecided) {X : Type 0} (new : Buckets E) (m before after : ℕ)
      (asks : AsksLayer slots {X = X} n scene tiles layer old new (Ok m) before after) (leaves : LeavesSources n old new) where
    pub layer_listable : PropertiesAreGiven → PropertiesAreReadByExpressions → IsListable slots n scene tiles layer new
    layer_listable given read = subst (λ l. IsListable slots n scene tiles l new) (sym found)
        (listable_after slots n old new scene tiles globals t m before after law given read
        (layer_asks right law new (Ok m) before after asks).ok (asked_held slots n old new leaves tiles globals n t held))

-- ---- layers in their order

module _ {E : Type 0} (slots : E → List Sized) (scene : Scene) (tiles : List SourceTile) (globals : List (List ℕ × Data))
    (ns : List ℕ) (ts : List Tree) where
  -- So many of the layers have been asked and counted, from what was kept first. The others are as they were.
  pub record CountsFirst (first : StyleKept) (k : ℕ) (b : Buckets E) (n before after : ℕ) : Type 0 where
    pub counted : n + evaluations_of scene tiles globals (drop k ts) (drop k (style_kept b ns)) ≡ evaluations_of scene tiles globals ts first
    pub least : before + n ≤ after
    pub most : after + nodes_of scene tiles globals (drop k ts) (drop k (style_kept b ns)) ≤ before + nodes_of scene tiles globals ts first
    pub holds : AreHeld slots tiles globals b ns ts
    pub right : AreRightIn slots tiles globals b scene ns ts

  pub none_counted : (b : Buckets E) (before : ℕ) → AreHeld slots tiles globals b ns ts → AreRightIn slots tiles globals b scene ns ts
      → CountsFirst (style_kept b ns) 0 b 0 before before
  none_counted b before holds right =
      let all = evaluations_of scene tiles globals ts (style_kept b ns) in
      let nodes = nodes_of scene tiles globals ts (style_kept b ns) in
      let counted : 0 + all ≡ all = omega arith in
      let most : before + nodes ≤ before + nodes = omega arith in
      record {
        counted = counted;
        least = omega arith;
        most = most;
        holds = holds;
        right = right;
      }

  -- What the first layers keep once they have been asked, with what the others will.
  abbrev pub KeepsFirst : StyleKept → ℕ → Buckets E → Type 0
  KeepsFirst first k b = take k (style_kept b ns) ++ kept_after scene tiles globals (drop k ts) (drop k (style_kept b ns))
      ≡ kept_after scene tiles globals ts first

same_lengths : {E : Type 0} (slots : E → List Sized) (tiles : List SourceTile) (globals : List (List ℕ × Data)) (ns : List ℕ) (ts : List Tree) (b : Buckets E)
    → AreHeld slots tiles globals b ns ts → length (style_kept b ns) ≡ length ts
same_lengths slots tiles globals ns ts b holds = length-map ns (kept_of b) ∙ pairs_lengths (HasLayer slots tiles globals b) ns ts holds

module _ {E : Type 0} {slots : E → List Sized} {scene : Scene} {tiles : List SourceTile} {globals : List (List ℕ × Data)} {ns : List ℕ} {ts : List Tree}
    {first : StyleKept} {k : ℕ} {b : Buckets E} {n before after : ℕ} (counts : CountsFirst slots scene tiles globals ns ts first k b n before after) where
  -- no more than all are taken
  pub most_taken : after ≤ before + nodes_of scene tiles globals ts first
  most_taken = no_more after (nodes_of scene tiles globals (drop k ts) (drop k (style_kept b ns))) (before + nodes_of scene tiles globals ts first) counts.most

  -- the layers as they are prepared
  pub layers_length : (layers : List StyleLayer) → layers ≡ prepared_layers globals ts → length layers ≡ length ns
  layers_length layers prepared =
      ap length prepared ∙ (length-map ts (prepared_layer globals) ∙ sym (pairs_lengths (HasLayer slots tiles globals b) ns ts counts.holds))

  -- all have been asked
  module _ (past : length ns ≤ k) where
    pub all_kept_after : KeepsFirst slots scene tiles globals ns ts first k b → style_kept b ns ≡ kept_after scene tiles globals ts first
    all_kept_after keeps =
        sym (of_end (kept_with scene tiles globals) null none_kept k ts (style_kept b ns) (past_map (kept_of b) ns k past) (same_lengths slots tiles globals ns ts b counts.holds))
        ∙ keeps

    pub all_counts : {X : Type 0} → Counts scene tiles globals ts first {X = X} (Ok n) before after
    all_counts = record {
      most = most_taken;
      ok = record {
        evaluated = no_rest n (evaluations_of scene tiles globals (drop k ts) (drop k (style_kept b ns))) (evaluations_of scene tiles globals ts first)
            (sum_end (evaluations_in scene tiles globals) null none_kept k ts (style_kept b ns) (past_map (kept_of b) ns k past)) counts.counted;
        least = counts.least;
      };
    }

-- an allocation fails
pub failed_counts : {X : Type 0} (scene : Scene) (tiles : List SourceTile) (globals : List (List ℕ × Data)) (ts : List Tree) (first : StyleKept)
    (before after : ℕ) (result : Result ℕ X) → IsErr result → after ≤ before + nodes_of scene tiles globals ts first
    → Counts scene tiles globals ts first result before after
failed_counts scene tiles globals ts first before after result failed most =
    record { most = most; ok = if_failed result (λ n. IsCounted scene tiles globals ts first n before after) failed }

-- ---- the layer at a place

-- Its number is x.
module _ {E : Type 0} {slots : E → List Sized} {scene : Scene} {tiles : List SourceTile} {globals : List (List ℕ × Data)} {ns : List ℕ} {ts : List Tree}
    {first : StyleKept} {k : ℕ} {old : Buckets E} {n before mid : ℕ} (counts : CountsFirst slots scene tiles globals ns ts first k old n before mid)
    (x : ℕ) (within : k < length ns) (is : x ≡ get_or ns k x) where
  abbrev this : Tree
  this = get_or ts k null

  abbrev means : LayerCell → Evaluated
  means = meaning scene tiles (prepared_layer globals this) (layer_expressions globals this)

  abbrev asked : List AskedCell
  asked = asked_of scene tiles globals this

  this_held : HasLayer slots tiles globals old x this
  this_held = subst (λ m. HasLayer slots tiles globals old m this) (sym is) (pairs_at (HasLayer slots tiles globals old) ns ts k x null within counts.holds)

  this_right : IsRight slots tiles globals old scene x this
  this_right = subst (λ m. IsRight slots tiles globals old scene m this) (sym is)
      (pairs_at (IsRight slots tiles globals old scene) ns ts k x null within counts.right)

  pub this_there : is_some (features_of old x) ≡ true
  this_there = ap is_some this_held.features

  this_kept : get_or (style_kept old ns) k none_kept ≡ kept_of old x
  this_kept = get_or-map (kept_of old) ns k x none_kept within ∙ ap (kept_of old) (sym is)

  within_kept : k < length (style_kept old ns)
  within_kept = within_map (kept_of old) ns k within

  within_trees : k < length ts
  within_trees = subst (λ m. k < m) (pairs_lengths (HasLayer slots tiles globals old) ns ts counts.holds) within

  same : length (style_kept old ns) ≡ length ts
  same = same_lengths slots tiles globals ns ts old counts.holds

  pub this_layer : (layers : List StyleLayer) (layer : StyleLayer) → layers ≡ prepared_layers globals ts → layer ≡ get_or layers k layer
      → layer ≡ prepared_layer globals (get_or ts k null)
  this_layer layers layer prepared at = at ∙ prepared_at globals ts layers k null layer within_trees prepared

  pub this_within : (layers : List StyleLayer) → layers ≡ prepared_layers globals ts → k < length layers
  this_within layers prepared =
      subst (λ ls. k < length ls) (sym prepared) (subst (λ m. k < m) (sym (length-map ts (prepared_layer globals))) within_trees)

  module _ (layer : StyleLayer) (found : layer ≡ prepared_layer globals (get_or ts k null)) where
    pub this_few : cell_count tiles (prepared_layers globals ts) < 4294967295 → length (layer_features tiles layer) < 4294967296
    this_few few = one_more (length (layer_features tiles layer))
        (subst (λ l. length (layer_features tiles l) < 4294967295) (get_or-map (prepared_layer globals) ts k null layer within_trees ∙ sym found)
        (few_at tiles (prepared_layers globals ts) k 4294967295 layer within_prepared few)) where
          within_prepared : k < length (prepared_layers globals ts)
          within_prepared = subst (λ m. k < m) (sym (length-map ts (prepared_layer globals))) within_trees

    pub this_kept_layer : cell_count tiles (prepared_layers globals ts) < 4294967295 → IsKeptLayer slots scene tiles x layer old
    this_kept_layer few = record {
      globals = globals;
      tree = this;
      prepared = found;
      held = this_held;
      right = this_right;
      few = this_few few;
    }

    pub this_listable : FiltersAreDecided → PropertiesAreGiven → PropertiesAreReadByExpressions → IsBareListable slots x scene layer old
    this_listable law given read = subst (λ l. IsBareListable slots x scene l old) (sym found) (record {
      expressions = layer_expressions globals this;
      sourced = this_held.sources;
      decided = decided_of law scene globals this;
      given = given globals (type_of this) this;
      reads = all_read_as_listed (layer_expressions globals this) (prepared_layer globals this).properties (read globals (type_of this) this);
    })

    -- It is listed, and none of its cells is kept.
    module _ (none : (cell : Cell) → kept_at old cell ≡ None) (after : ℕ) where
      none_of : (c : LayerCell) → kept_of old x c ≡ false
      none_of c = ap is_some (none (cell_in x c))

      apart_cells : PairsByRecursion AreOthers asked
      apart_cells = layer_pairs (layer_expressions globals this) scene (prepared_layer globals this)
          (properties_rise globals (type_of this) this) tiles

      evaluates_this : {X : Type 0} (result : Result ℕ X) → EvaluatesLayer slots x scene tiles layer old result mid after
          → EvaluatesCells asked result mid after
      evaluates_this result evaluates = subst (λ l. EvaluatesLayer slots x scene tiles l old result mid after) found evaluates
          (layer_expressions globals this) this_held.sources

      left_sum : (amount : Tree → LayerKept → ℕ)
          → amount this (kept_of old x) + sum_of_each amount (drop (k + 1) ts) (drop (k + 1) (style_kept old ns))
          ≡ sum_of_each amount (drop k ts) (drop k (style_kept old ns))
      left_sum amount =
          ap (λ kept. amount this kept + sum_of_each amount (drop (k + 1) ts) (drop (k + 1) (style_kept old ns))) (sym this_kept)
          ∙ sym (ap (λ us. sum_of_each amount us (drop k (style_kept old ns))) (drop_more ts k null within_trees)
          ∙ ap (λ ks. sum_of_each amount (this ∷ drop (k + 1) ts) ks) (drop_more (style_kept old ns) k none_kept within_kept))

      bare_most : {X : Type 0} (result : Result ℕ X) → EvaluatesLayer slots x scene tiles layer old result mid after
          → after ≤ mid + nodes_in scene tiles globals this (kept_of old x)
      bare_most result evaluates = subst (λ m. after ≤ mid + m) (sym (bare_nodes (kept_of old x) none_of asked apart_cells))
          (evaluates_this result evaluates).most

      -- An allocation fails.
      pub bare_stops : {X : Type 0} (result : Result ℕ X) → EvaluatesLayer slots x scene tiles layer old result mid after
          → after ≤ before + nodes_of scene tiles globals ts first
      bare_stops result evaluates =
          let rest = sum_of_each (nodes_in scene tiles globals) (drop (k + 1) ts) (drop (k + 1) (style_kept old ns)) in
          let total = nodes_of scene tiles globals ts first in
          no_more after rest (before + total)
          (sum_stays (nodes_in scene tiles globals this (kept_of old x)) rest (nodes_of scene tiles globals (drop k ts) (drop k (style_kept old ns)))
          mid after before total (left_sum (nodes_in scene tiles globals)) (bare_most result evaluates) counts.most)

      pub bare_counts : {X : Type 0} (m : ℕ) → EvaluatesLayer {X = X} slots x scene tiles layer old (Ok m) mid after
          → (both : ℕ) → both ≡ n + m → CountsFirst slots scene tiles globals ns ts first (k + 1) old both before after
      bare_counts m evaluates both sum = record {
        counted = sum_counts n m both (evaluations_in scene tiles globals this (kept_of old x))
            (evaluations_of scene tiles globals (drop (k + 1) ts) (drop (k + 1) (style_kept old ns)))
            (evaluations_of scene tiles globals (drop k ts) (drop k (style_kept old ns)))
            (evaluations_of scene tiles globals ts first) sum
            ((evaluates_this (Ok m) evaluates).number ∙ sym (bare_evaluations (kept_of old x) none_of asked apart_cells))
            (left_sum (evaluations_in scene tiles globals)) counts.counted;
        least = sum_takes n m both before mid after sum counts.least (evaluates_this (Ok m) evaluates).least;
        most = sum_stays (nodes_in scene tiles globals this (kept_of old x))
            (nodes_of scene tiles globals (drop (k + 1) ts) (drop (k + 1) (style_kept old ns)))
            (nodes_of scene tiles globals (drop k ts) (drop k (style_kept old ns)))
            mid after before (nodes_of scene tiles globals ts first) (left_sum (nodes_in scene tiles globals)) (bare_most (Ok m) evaluates) counts.most;
        holds = counts.holds;
        right = counts.right;
      }

    module _ (law : FiltersAreDecided) (asked_new : Buckets E) (after : ℕ) where
      asks_this : {X : Type 0} (result : Result ℕ X) → AsksLayer slots x scene tiles layer old asked_new result mid after
          → Asks means asked (kept_in old x) (kept_in asked_new x) result mid after
      asks_this result asks = layer_asks slots scene tiles globals this x layer found old this_held this_right law asked_new result mid after asks

      -- An allocation fails.
      pub stops_here : {X : Type 0} (result : Result ℕ X) → AsksLayer slots x scene tiles layer old asked_new result mid after
          → after ≤ before + nodes_of scene tiles globals ts first
      stops_here result asks =
          let rest = sum_of_each (nodes_in scene tiles globals) (drop (suc k) ts) (drop (suc k) (slice_set (style_kept old ns) k none_kept)) in
          let all = nodes_of scene tiles globals (drop k ts) (drop k (style_kept old ns)) in
          let total = nodes_of scene tiles globals ts first in
          let next : nodes_in scene tiles globals this (kept_of old x) + rest ≡ all =
          subst (λ kept. nodes_in scene tiles globals this kept + rest ≡ all) this_kept
          (sum_next (nodes_in scene tiles globals) null none_kept k ts (style_kept old ns) none_kept within_kept same) in
          no_more after rest (before + total)
          (sum_stays (nodes_in scene tiles globals this (kept_of old x)) rest all mid after before total next (asks_this result asks).most counts.most)

      module _ (apart : AreApart ns) {X : Type 0} (m : ℕ) (asks : AsksLayer slots {X = X} x scene tiles layer old asked_new (Ok m) mid after) where
        have : HaveAsked means asked (kept_in old x) (kept_in asked_new x) m mid after
        have = (asks_this (Ok m) asks).ok

        -- Then what is kept of it may change, and what is kept of the other layers stays.
        module _ (new : Buckets E) (left : Leaves slots x old new) (stays : (l : ℕ) (t : Tree) → HasLayer slots tiles globals old l t → HasLayer slots tiles globals new l t)
            (still_right : IsRight slots tiles globals new scene x this) where
          next_kept : style_kept new ns ≡ slice_set (style_kept old ns) k (kept_of new x)
          next_kept = map_at (kept_of old) (kept_of new) ns k x within apart (λ l other. kept_left slots x old new left l (λ e. other (sym is ∙ e)))
              ∙ ap (λ l. slice_set (style_kept old ns) k (kept_of new l)) (sym is)

          next_sum : (amount : Tree → LayerKept → ℕ)
              → amount this (kept_of old x) + sum_of_each amount (drop (k + 1) ts) (drop (k + 1) (style_kept new ns))
              ≡ sum_of_each amount (drop k ts) (drop k (style_kept old ns))
          next_sum amount =
              let all = sum_of_each amount (drop k ts) (drop k (style_kept old ns)) in
              let at : amount this (get_or (style_kept old ns) k none_kept)
              + sum_of_each amount (drop (suc k) ts) (drop (suc k) (slice_set (style_kept old ns) k (kept_of new x))) ≡ all =
              sum_next amount null none_kept k ts (style_kept old ns) (kept_of new x) within_kept same in
              let by_number : amount this (kept_of old x)
              + sum_of_each amount (drop (suc k) ts) (drop (suc k) (slice_set (style_kept old ns) k (kept_of new x))) ≡ all =
              subst (λ kept. amount this kept + sum_of_each amount (drop (suc k) ts) (drop (suc k) (slice_set (style_kept old ns) k (kept_of new x))) ≡ all) this_kept at in
              let of_new : amount this (kept_of old x) + sum_of_each amount (drop (suc k) ts) (drop (suc k) (style_kept new ns)) ≡ all =
              subst (λ ks. amount this (kept_of old x) + sum_of_each amount (drop (suc k) ts) (drop (suc k) ks) ≡ all) (sym next_kept) by_number in
              subst (λ j. amount this (kept_of old x) + sum_of_each amount (drop j ts) (drop j (style_kept new ns)) ≡ all) (suc_more k) of_new

          next_right : AreRightIn slots tiles globals new scene ns ts
          next_right = subst (λ us. AreRightIn slots tiles globals new scene ns us) (set-get_or ts k null)
              (pairs_change (IsRight slots tiles globals old scene) (IsRight slots tiles globals new scene) ns ts k x this within apart
              (λ l u other. right_left slots x old new left tiles globals scene l u (λ e. other (sym is ∙ e)))
              (subst (λ l. IsRight slots tiles globals new scene l this) is still_right) counts.right)

          pub next_counts : (both : ℕ) → both ≡ n + m → CountsFirst slots scene tiles globals ns ts first (k + 1) new both before after
          next_counts both sum = record {
            counted = sum_counts n m both (evaluations_in scene tiles globals this (kept_of old x))
                (evaluations_of scene tiles globals (drop (k + 1) ts) (drop (k + 1) (style_kept new ns)))
                (evaluations_of scene tiles globals (drop k ts) (drop k (style_kept old ns)))
                (evaluations_of scene tiles globals ts first) sum have.evaluated (next_sum (evaluations_in scene tiles globals)) counts.counted;
            least = sum_takes n m both before mid after sum counts.least have.least;
            most = sum_stays (nodes_in scene tiles globals this (kept_of old x))
                (nodes_of scene tiles globals (drop (k + 1) ts) (drop (k + 1) (style_kept new ns)))
                (nodes_of scene tiles globals (drop k ts) (drop k (style_kept old ns)))
                mid after before (nodes_of scene tiles globals ts first) (next_sum (nodes_in scene tiles globals)) (asks_this (Ok m) asks).most counts.most;
            holds = pairs_same (HasLayer slots tiles globals old) (HasLayer slots tiles globals new) stays ns ts counts.holds;
            right = next_right;
          }

        -- It stays as it was asked.
        module _ (leaves : LeavesSources x old asked_new) where
          asked_right : IsRight slots tiles globals asked_new scene x this
          asked_right = layer_right slots x old asked_new leaves scene tiles globals this m mid after have this_right

          pub asked_counts : (both : ℕ) → both ≡ n + m → CountsFirst slots scene tiles globals ns ts first (k + 1) asked_new both before after
          asked_counts = next_counts asked_new (asked_leaves slots x old asked_new leaves) (asked_held slots x old asked_new leaves tiles globals) asked_right

          abbrev this_with : LayerKept
          this_with = kept_with scene tiles globals this (get_or (style_kept old ns) k none_kept)

          asked_kept_now : style_kept asked_new ns ≡ slice_set (style_kept old ns) k this_with
          asked_kept_now =
              next_kept asked_new (asked_leaves slots x old asked_new leaves) (asked_held slots x old asked_new leaves tiles globals) asked_right
              ∙ ap (slice_set (style_kept old ns) k) (layer_kept slots x old asked_new leaves scene tiles globals this m mid after have
              ∙ ap (kept_with scene tiles globals this) (sym this_kept))

          pub asked_keeps : KeepsFirst slots scene tiles globals ns ts first k old → KeepsFirst slots scene tiles globals ns ts first (k + 1) asked_new
          asked_keeps keeps = subst (λ j. take j (style_kept asked_new ns) ++ kept_after scene tiles globals (drop j ts) (drop j (style_kept asked_new ns))
              ≡ kept_after scene tiles globals ts first) (suc_more k)
              (ap (λ ks. take (suc k) ks ++ kept_after scene tiles globals (drop (suc k) ts) (drop (suc k) ks)) asked_kept_now
              ∙ (of_next (kept_with scene tiles globals) null none_kept k ts (style_kept old ns) within_kept same ∙ keeps))

-- ---- lines of layers

module _ (scene : Scene) (tiles : List SourceTile) where
  abbrev pub lines_of : List StyleLayer → List ℕ
  lines_of layers = flat_map layer_lines (map (layer_out scene tiles) layers)

  pub lines_first : (out : List ℕ) (layers : List StyleLayer) → out ++ lines_of (drop 0 layers) ≡ out ++ lines_of layers
  lines_first out layers = refl

  pub lines_next : (was out new : List ℕ) (layers : List StyleLayer) (k : ℕ) (layer : StyleLayer) → k < length layers
      → layer ≡ get_or layers k layer → out ++ lines_of (drop k layers) ≡ was ++ lines_of layers
      → new ≡ out ++ layer_lines (layer_out scene tiles layer) → new ++ lines_of (drop (k + 1) layers) ≡ was ++ lines_of layers
  lines_next was out new layers k layer within is lines written =
      let split : drop k layers ≡ layer ∷ drop (k + 1) layers =
      drop_more layers k layer within ∙ ap (λ l. l ∷ drop (k + 1) layers) (sym is) in
      ap (λ text. text ++ lines_of (drop (k + 1) layers)) written
      ∙ (append_assoc out (layer_lines (layer_out scene tiles layer)) (lines_of (drop (k + 1) layers))
      ∙ (sym (ap (λ ls. out ++ lines_of ls) split) ∙ lines))

  -- the lines of the layer at a place, and those of the layers after it
  pub lines_split : (layers : List StyleLayer) (k : ℕ) (layer : StyleLayer) → k < length layers → layer ≡ get_or layers k layer
      → lines_of (drop k layers) ≡ layer_lines (layer_out scene tiles layer) ++ lines_of (drop (k + 1) layers)
  lines_split layers k layer within is =
      ap lines_of (drop_more layers k layer within ∙ ap (λ l. l ∷ drop (k + 1) layers) (sym is))

  -- past the last layer
  pub no_lines : (layers : List StyleLayer) (k : ℕ) → length layers ≤ k → lines_of (drop k layers) ≡ []
  no_lines layers k past = ap lines_of (drop_all k layers past)

  pub lines_end : (was out : List ℕ) (layers : List StyleLayer) (k : ℕ) → length layers ≤ k
      → out ++ lines_of (drop k layers) ≡ was ++ lines_of layers → out ≡ was ++ lines_of layers
  lines_end was out layers k past lines =
      sym (append-nil out) ∙ (sym (ap (λ ls. out ++ lines_of ls) (drop_all k layers past)) ∙ lines)
