-- The state of a feature is another: one layer after another.
use Rattle.std.proofs.Common.{◌≡◌, ◌≢◌, ℕ, ◌+◌, ◌<◌, ◌≤◌, List, length, get_or, take, Bool, true, false, ◌&&◌, ◌||◌, nat_eq, Option, Some, None, refl, sym, ap, ◌∙◌, subst, if◌then◌else◌}
use Rattle.std.proofs.lemmas.Bool.{false≢true}
use Rattle.std.proofs.lemmas.List.Folds.{list_any_more}
use Rattle.std.specs.Str.{bytes_eq}
use Rattle.decimal_json.specs.Tree.{Tree, null}
use Rattle.prop_values.specs.Data.{Data}
use Rattle.operator_values.specs.Evaluated.{Evaluated}
use Rattle.expr_nodes.specs.Evaluators.{Sized}
use Rattle.layer_buckets.specs.Cells as cells
use Rattle.layer_buckets.specs.Seen.{evaluator_of, kept_at, source_of}
use Rattle.layer_buckets.specs.declared.buckets.Buckets.{Buckets}
use Rattle.layer_buckets.specs.declared.cell.Cell.{Cell}
use Rattle.noted_places.specs.Places.{AreNoted, is_noted}
use Rattle.style_layout.specs.Layers.{StyleLayer}
use Rattle.style_layout.specs.Outlines.{layer_outline}
use Rattle.style_layout.specs.Shown.{SourceTile}
use Rattle.asked_cells.specs.Asked.{LayerCell, cell_in}
use Rattle.asked_cells.specs.Counted.{kept_in}
use Rattle.kept_layers.proofs.DropLaws.{AreDropped, states_stale}
use Rattle.kept_layers.proofs.HoldingLaws.{nat_apart, nat_itself, nat_same}
use Rattle.kept_layers.proofs.Lists.{apart_at, pairs_at, pairs_from, take_whole}
use Rattle.kept_layers.proofs.NumberedLaws.{off_first, off_second}
use Rattle.kept_layers.proofs.StateLaws.{feature_is}
use Rattle.kept_layers.specs.Holding.{AreApart, AreHeld, HasLayer, Pairwise, ReadsNoState, Still}
use Rattle.kept_layers.specs.KeptLayers.{id_at, is_feature, is_stale_state, layer_expressions, outline_of, prepared_layer, reads_state}
use Rattle.feature_index.specs.Ids.{is_id}

no_second : (a : Bool) → (a && false) ≡ false
no_second true = refl
no_second false = refl

turned_about : (a b : Bool) → (a && b) ≡ (b && a)
turned_about true true = refl
turned_about true false = refl
turned_about false true = refl
turned_about false false = refl

none_still : (b : Bool) (o : Option Evaluated) → o ≡ None → (if b then None else o) ≡ None
none_still true o e = refl
none_still false o e = e

twice_dropped : (b : Bool) (o : Option Evaluated) → (if b then None else (if b then None else o)) ≡ (if b then None else o)
twice_dropped true o = refl
twice_dropped false o = refl

or_first : (a b : Bool) → b ≡ false → (a || b) ≡ true → a ≡ true
or_first true b off h = refl
or_first false b off h = absurd (false≢true (sym off ∙ h))

-- a feature of the outline of a layer is one of the layer
pub outline_feature : (source layer : List ℕ) (id : ℕ) (shown : StyleLayer) (o : Option ℕ)
    → is_feature source layer id (layer_outline shown) o ≡ is_feature source layer id shown o
outline_feature source layer id shown (Some i) = refl
outline_feature source layer id shown None = refl

outline_id : (tiles : List SourceTile) (shown : StyleLayer) (o : Option ℕ) → id_at tiles (layer_outline shown) o ≡ id_at tiles shown o
outline_id tiles shown (Some n) = refl
outline_id tiles shown None = refl

module _ {E : Type 0} (slots : E → List Sized) (tiles : List SourceTile) (globals : List (List ℕ × Data)) (source layer : List ℕ) (id : ℕ)
    (old : Buckets E) (ns : List ℕ) (ts : List Tree) (ps : List ℕ) where
  abbrev stale : Tree → LayerCell → Bool
  stale = is_stale_state tiles globals source layer id

  -- the cells of the layers at the first of some places are dropped where they are stale, and those of the others are
  -- kept as they were
  pub record AreTurned (count : ℕ) (now : Buckets E) : Type 0 where
    pub still : Still old now
    pub fewer : (l : ℕ) (c : LayerCell) → kept_in old l c ≡ None → kept_in now l c ≡ None
    pub first : (p : ℕ) → p < length ns → is_noted (take count ps) p ≡ true
        → AreDropped slots tiles globals old now stale (get_or ns p 0) (get_or ts p null)
    pub others : (p : ℕ) (c : LayerCell) → p < length ns → is_noted (take count ps) p ≡ false
        → kept_in now (get_or ns p 0) c ≡ kept_in old (get_or ns p 0) c

  pub none_turned : AreTurned 0 old
  none_turned = record {
    still = record { evaluator = refl; source = λ l item. refl; features = λ l. refl };
    fewer = λ l c e. e;
    first = λ p within noted. absurd (false≢true noted);
    others = λ p c within off. refl;
  }

  -- all layers are turned, since those of other places read no state
  pub all_turned : (count : ℕ) (now : Buckets E) → length ps ≤ count → length ns ≡ length ts → AreNoted (ReadsNoState old) ns ps
      → AreHeld slots tiles globals old ns ts → AreTurned count now → Pairwise (AreDropped slots tiles globals old now stale) ns ts
  all_turned count now end same noted held turned = pairs_from (AreDropped slots tiles globals old now stale) 0 null ns ts same
      (λ p within. dropped_by p within (is_noted ps p) refl) where
        whole : (p : ℕ) → is_noted (take count ps) p ≡ is_noted ps p
        whole p = ap (λ l. is_noted l p) (take_whole ps count end)

        fresh : (p : ℕ) → p < length ns → is_noted ps p ≡ false → (c : LayerCell) → stale (get_or ts p null) c ≡ false
        fresh p within off c =
            let t = get_or ts p null in
            let this : HasLayer slots tiles globals old (get_or ns p 0) t = pairs_at (HasLayer slots tiles globals old) ns ts p 0 null within held in
            let reads : reads_state (layer_expressions globals t c.item) ≡ false =
            sym (states_stale (slots (evaluator_of old)) c.item (layer_expressions globals t c.item) (source_of old (get_or ns p 0) c.item) (this.sources c.item))
            ∙ noted.others p 0 within off c.item in
            ap (λ b. b && is_feature source layer id (prepared_layer globals t) (id_at tiles (prepared_layer globals t) c.feature)) reads

        dropped_by : (p : ℕ) → p < length ns → (b : Bool) → is_noted ps p ≡ b
            → AreDropped slots tiles globals old now stale (get_or ns p 0) (get_or ts p null)
        dropped_by p within true is = turned.first p within (whole p ∙ is)
        dropped_by p within false off = λ c. turned.others p c within (whole p ∙ off)
            ∙ sym (ap (λ b. if b then None else kept_in old (get_or ns p 0) c) (fresh p within off c))

  module _ (count : ℕ) (now : Buckets E) (turned : AreTurned count now) (place : ℕ) (more : count < length ps) (is : place ≡ get_or ps count place)
      (within : place < length ns) (apart : AreApart ns) (held : AreHeld slots tiles globals old ns ts) where
    abbrev here : ℕ
    here = get_or ns place 0

    abbrev tree : Tree
    tree = get_or ts place null

    held_here : HasLayer slots tiles globals old here tree
    held_here = pairs_at (HasLayer slots tiles globals old) ns ts place 0 null within held

    noted_next : (p : ℕ) → is_noted (take (count + 1) ps) p ≡ (is_noted (take count ps) p || nat_eq place p)
    noted_next p = list_any_more (λ one. nat_eq one p) ps count place more ∙ ap (λ q. is_noted (take count ps) p || nat_eq q p) (sym is)

    -- the layer may have been turned before
    turned_before : (c : LayerCell) → (if stale tree c then None else kept_in now here c) ≡ (if stale tree c then None else kept_in old here c)
    turned_before c = by_noted (is_noted (take count ps) place) refl where
      by_noted : (b : Bool) → is_noted (take count ps) place ≡ b
          → (if stale tree c then None else kept_in now here c) ≡ (if stale tree c then None else kept_in old here c)
      by_noted true noted = ap (λ o. if stale tree c then None else o) (turned.first place within noted c) ∙ twice_dropped (stale tree c) (kept_in old here c)
      by_noted false off = ap (λ o. if stale tree c then None else o) (turned.others place c within off)

    -- its cells are dropped, and no others
    module _ (new : Buckets E) (still : Still now new) (fewer : (l : ℕ) (c : LayerCell) → kept_in now l c ≡ None → kept_in new l c ≡ None)
        (this : (c : LayerCell) → kept_in new here c ≡ (if stale tree c then None else kept_in now here c))
        (rest : (p : ℕ) (c : LayerCell) → p < length ns → p ≢ place → kept_in new (get_or ns p 0) c ≡ kept_in now (get_or ns p 0) c) where
      is_other : (p : ℕ) → nat_eq place p ≡ false → p ≢ place
      is_other p off e = nat_apart place p off (sym e)

      place_turned : AreTurned (count + 1) new
      place_turned = record {
        still = record {
          evaluator = still.evaluator ∙ turned.still.evaluator;
          source = λ l item. still.source l item ∙ turned.still.source l item;
          features = λ l. still.features l ∙ turned.still.features l;
        };
        fewer = λ l c e. fewer l c (turned.fewer l c e);
        first = λ p inside noted. first_by p inside noted (nat_eq place p) refl;
        others = λ p c inside off.
            let none = sym (noted_next p) ∙ off in
            rest p c inside (is_other p (off_second (is_noted (take count ps) p) (nat_eq place p) none))
            ∙ turned.others p c inside (off_first (is_noted (take count ps) p) (nat_eq place p) none);
      } where
        first_by : (p : ℕ) → p < length ns → is_noted (take (count + 1) ps) p ≡ true → (b : Bool) → nat_eq place p ≡ b
            → AreDropped slots tiles globals old new stale (get_or ns p 0) (get_or ts p null)
        first_by p inside noted true same = subst (λ k. AreDropped slots tiles globals old new stale (get_or ns k 0) (get_or ts k null))
            (nat_same place p same) (λ c. this c ∙ turned_before c)
        first_by p inside noted false off = λ c. rest p c inside (is_other p off)
            ∙ turned.first p inside (or_first (is_noted (take count ps) p) (nat_eq place p) off (sym (noted_next p) ∙ noted)) c

    -- a layer that does not show the feature
    pub passed_by : ((i : Option ℕ) → is_feature source layer id (prepared_layer globals tree) i ≡ false) → AreTurned (count + 1) now
    passed_by none = place_turned now (record { evaluator = refl; source = λ l item. refl; features = λ l. refl }) (λ l c e. e)
        (λ c. sym (ap (λ b. if b then None else kept_in now here c) (fresh c))) (λ p c inside other. refl) where
          fresh : (c : LayerCell) → stale tree c ≡ false
          fresh c = ap (λ b. reads_state (layer_expressions globals tree c.item) && b) (none (id_at tiles (prepared_layer globals tree) c.feature))
              ∙ no_second (reads_state (layer_expressions globals tree c.item))

    -- a layer that shows features of the source layer
    module _ (new : Buckets E) (shown : StyleLayer) (is_shown : shown ≡ outline_of globals tree)
        (same_source : bytes_eq source shown.source ≡ true) (same_layer : bytes_eq layer shown.source_layer ≡ true) (still : Still now new)
        (kept : (cell : Cell) → kept_at new cell ≡ (if (nat_eq here cell.layer && is_id id (id_at tiles shown cell.feature))
        && cells.reads_state (source_of now cell.layer cell.item) then None else kept_at now cell)) where
      flags : (c : LayerCell) → ((nat_eq here here && is_id id (id_at tiles shown c.feature)) && cells.reads_state (source_of now here c.item)) ≡ stale tree c
      flags c =
          ap (λ b. (b && is_id id (id_at tiles shown c.feature)) && cells.reads_state (source_of now here c.item)) (nat_itself here)
          ∙ ((λ i. sym (feature_is source layer id shown (id_at tiles shown c.feature) same_source same_layer) i && cells.reads_state (source_of now here c.item))
          ∙ ((λ i. is_feature source layer id (is_shown i) (id_at tiles (is_shown i) c.feature) && cells.reads_state (turned.still.source here c.item i))
          ∙ (ap (λ b. b && cells.reads_state (source_of old here c.item))
          (outline_feature source layer id (prepared_layer globals tree) (id_at tiles (outline_of globals tree) c.feature)
          ∙ ap (is_feature source layer id (prepared_layer globals tree)) (outline_id tiles (prepared_layer globals tree) c.feature))
          ∙ (ap (λ b. is_feature source layer id (prepared_layer globals tree) (id_at tiles (prepared_layer globals tree) c.feature) && b)
          (states_stale (slots (evaluator_of old)) c.item (layer_expressions globals tree c.item) (source_of old here c.item) (held_here.sources c.item))
          ∙ turned_about (is_feature source layer id (prepared_layer globals tree) (id_at tiles (prepared_layer globals tree) c.feature))
          (reads_state (layer_expressions globals tree c.item))))))

      other_layer : (l : ℕ) (c : LayerCell) → nat_eq here l ≡ false → kept_in new l c ≡ kept_in now l c
      other_layer l c e = kept (cell_in l c)
          ∙ ap (λ b. if (b && is_id id (id_at tiles shown c.feature)) && cells.reads_state (source_of now l c.item) then None else kept_in now l c) e

      number_is_other : (p : ℕ) → p < length ns → p ≢ place → nat_eq here (get_or ns p 0) ≡ false
      number_is_other p inside other = by_test (nat_eq here (get_or ns p 0)) refl where
        by_test : (t : Bool) → nat_eq here (get_or ns p 0) ≡ t → t ≡ false
        by_test true same = absurd (apart_at ns place p 0 0 within inside (λ e. other (sym e)) apart (nat_same here (get_or ns p 0) same))
        by_test false same = refl

      pub layer_turned : AreTurned (count + 1) new
      layer_turned = place_turned new still
          (λ l c e. kept (cell_in l c) ∙ none_still ((nat_eq here l && is_id id (id_at tiles shown c.feature)) && cells.reads_state (source_of now l c.item))
          (kept_in now l c) e)
          (λ c. kept (cell_in here c) ∙ ap (λ b. if b then None else kept_in now here c) (flags c))
          (λ p c inside other. other_layer (get_or ns p 0) c (number_is_other p inside other))
