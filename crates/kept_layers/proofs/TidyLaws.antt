-- Expressions are put anew: one layer after another has its own, and all that is kept stays.
use Rattle.std.proofs.Common.{◌≡◌, ◌≢◌, ℕ, ◌+◌, ◌<◌, List, length, get_or, map, Option, Some, None, is_some, refl, sym, ap, ◌∙◌, subst, arith, inl, inr}
use Rattle.std.specs.Prelude.{◌⊎◌}
use Rattle.decimal_json.specs.Tree.{Tree, null}
use Rattle.prop_values.specs.Data.{Data}
use Rattle.expr_nodes.specs.Evaluators.{Sized}
use Rattle.form_pool.specs.declared.form_pool.FormPool.{FormPool}
use Rattle.layer_buckets.specs.Cells as cells
use Rattle.layer_buckets.specs.Seen.{IsSound, evaluator_of, source_of}
use Rattle.layer_buckets.specs.declared.buckets.Buckets.{Buckets}
use Rattle.layer_buckets.specs.declared.cell.CellItem.{CellItem}
use Rattle.layer_buckets.specs.declared.cell.Source.{Source}
use Rattle.noted_places.proofs.NotedLaws.{noted_same}
use Rattle.noted_places.specs.Places.{AreNoted, places_in}
use Rattle.style_layout.specs.Forms.{Scene}
use Rattle.style_layout.specs.Shown.{SourceTile}
use Rattle.asked_cells.specs.Asked.{cell_in}
use Rattle.asked_cells.specs.Expressions.{HasExpressions, IsSourced, LayerExpressions}
use Rattle.cell_sources.specs.Sourced.{HasSources, KeepsNumbers, KeepsSources, numberless}
use Rattle.cell_sources.proofs.RenewLaws.{is_source_of, no_source}
use Rattle.cell_sources.proofs.SourcedLaws.{sourced_longer}
use Rattle.kept_layers.proofs.GlobalLaws.{below_or_last}
use Rattle.kept_layers.proofs.HoldingLaws.{there_all}
use Rattle.kept_layers.proofs.Lists.{apart_at, pairs_at, pairs_from, pairs_lengths}
use Rattle.kept_layers.specs.Changes.{TurnsGlobals}
use Rattle.kept_layers.specs.Following.{HasFollowed}
use Rattle.kept_layers.specs.Holding.{AbsentAreBare, AreApart, AreHeld, AreRightIn, AreThere, HasLayer, IsRight, Pairwise, ReadsNoState, style_kept}
use Rattle.kept_layers.specs.KeptLayers.{StyleKept, layer_expressions}
use Rattle.kept_layers.specs.Tidying.{AreRenewed, Tidies}
use Rattle.kept_layers.specs.View.{AreNumbered, globals_in, tiles_in, trees_in}
use Rattle.kept_layers.specs.declared.kept_layers.KeptLayers.{KeptLayers}
use Rattle.kept_layers.specs.declared.style_layers.StyleLayers.{StyleLayers}

-- ---- one layer after another

module _ {E : Type 0} (slots : E → List Sized) where
  -- another layer keeps its expressions
  still_has : (n m : ℕ) (e : LayerExpressions) (a b : Buckets E) → KeepsNumbers slots n a b → n ≢ m → HasExpressions slots m e a → HasExpressions slots m e b
  still_has n m e a b numbers apart has item =
      subst (IsSourced (slots (evaluator_of b)) item (e item)) (sym (numbers.source m item apart))
      (sourced_longer (slots (evaluator_of a)) (slots (evaluator_of b)) item (e item) (source_of a m item) numbers.expressions (has item))

  -- it had the sources that it has
  had_sources : (n : ℕ) (e : LayerExpressions) (old now : Buckets E) → KeepsSources old now → HasSources n e old → HasSources n e now
  had_sources n e old now keeps had item = keeps.source n item ∙ had item

  module _ (globals : List (List ℕ × Data)) (ns : List ℕ) (ts : List Tree) (old : Buckets E) where
    pub none_anew : (now : Buckets E) → AreRenewed slots globals ns ts 0 old now
    none_anew now = λ p h within had. absurd (omega (arith, h))

    pub more_anew : (place : ℕ) (now new : Buckets E) → AreRenewed slots globals ns ts place old now → KeepsSources old now
        → place < length ns → AreApart ns → KeepsNumbers slots (get_or ns place 0) now new
        → (HasSources (get_or ns place 0) (layer_expressions globals (get_or ts place null)) now
        → HasExpressions slots (get_or ns place 0) (layer_expressions globals (get_or ts place null)) new)
        → AreRenewed slots globals ns ts (place + 1) old new
    more_anew place now new first keeps inside apart numbers renewed = λ p h within had. by_place p within had (below_or_last p place h) where
      by_place : (p : ℕ) → p < length ns → HasSources (get_or ns p 0) (layer_expressions globals (get_or ts p null)) old → (p ≡ place) ⊎ (p < place)
          → HasExpressions slots (get_or ns p 0) (layer_expressions globals (get_or ts p null)) new
      by_place p within had (inl is) =
          subst (λ k. HasSources (get_or ns k 0) (layer_expressions globals (get_or ts k null)) old
          → HasExpressions slots (get_or ns k 0) (layer_expressions globals (get_or ts k null)) new) (sym is)
          (λ was. renewed (had_sources (get_or ns place 0) (layer_expressions globals (get_or ts place null)) old now keeps was)) had
      by_place p within had (inr below) =
          still_has (get_or ns place 0) (get_or ns p 0) (layer_expressions globals (get_or ts p null)) now new numbers
          (apart_at ns place p 0 0 inside within (λ same. absurd (omega (arith, same, below))) apart) (first p below within had)

-- ---- what is read of a source without its number

numberless_globals : (o : Option Source) → cells.reads_globals o ≡ cells.reads_globals (numberless o)
numberless_globals (Some s) = refl
numberless_globals None = refl

numberless_state : (o : Option Source) → cells.reads_state o ≡ cells.reads_state (numberless o)
numberless_state (Some s) = refl
numberless_state None = refl

module _ {E : Type 0} (old new : Buckets E) (keeps : KeepsSources old new) where
  same_globals : (l : ℕ) (item : CellItem) → cells.reads_globals (source_of new l item) ≡ cells.reads_globals (source_of old l item)
  same_globals l item =
      numberless_globals (source_of new l item) ∙ ap cells.reads_globals (keeps.source l item) ∙ sym (numberless_globals (source_of old l item))

  same_state : (l : ℕ) (item : CellItem) → cells.reads_state (source_of new l item) ≡ cells.reads_state (source_of old l item)
  same_state l item =
      numberless_state (source_of new l item) ∙ ap cells.reads_state (keeps.source l item) ∙ sym (numberless_state (source_of old l item))

  tidy_bare : AbsentAreBare old → AbsentAreBare new
  tidy_bare bare l none =
      let was = bare l (sym (keeps.features l) ∙ none) in
      record {
        sources = λ item. no_source (source_of new l item) (keeps.source l item ∙ ap numberless (was.sources item));
        kept = λ c. keeps.kept (cell_in l c) ∙ was.kept c;
      }

  tidy_kept : (ns : List ℕ) → style_kept new ns ≡ style_kept old ns
  tidy_kept ns = λ i. map (λ n c. is_some (keeps.kept (cell_in n c) i)) ns

  module _ (slots : E → List Sized) (tiles : List SourceTile) (globals : List (List ℕ × Data)) (ns : List ℕ) (ts : List Tree) where
    tidy_held : AreHeld slots tiles globals old ns ts → AreRenewed slots globals ns ts (length ns) old new → AreHeld slots tiles globals new ns ts
    tidy_held held renewed =
        pairs_from (HasLayer slots tiles globals new) 0 null ns ts (pairs_lengths (HasLayer slots tiles globals old) ns ts held)
        (λ p within. has_layer p within (pairs_at (HasLayer slots tiles globals old) ns ts p 0 null within held))
      where
        has_layer : (p : ℕ) → p < length ns → HasLayer slots tiles globals old (get_or ns p 0) (get_or ts p null)
            → HasLayer slots tiles globals new (get_or ns p 0) (get_or ts p null)
        has_layer p within has = record {
          sources = renewed p within within
              (λ item. is_source_of (slots (evaluator_of old)) item (layer_expressions globals (get_or ts p null) item) (source_of old (get_or ns p 0) item)
              (has.sources item));
          features = keeps.features (get_or ns p 0) ∙ has.features;
        }

    tidy_right : (scene : Scene) → length ns ≡ length ts → AreRightIn slots tiles globals old scene ns ts → AreRightIn slots tiles globals new scene ns ts
    tidy_right scene same right =
        pairs_from (IsRight slots tiles globals new scene) 0 null ns ts same
        (λ p within c value is. pairs_at (IsRight slots tiles globals old scene) ns ts p 0 null within right c value
        (sym (keeps.kept (cell_in (get_or ns p 0) c)) ∙ is))

-- ---- all layers

pub itself_tidy : (slots : FormPool → List Sized) (tiles : List SourceTile) (globals : List (List ℕ × Data)) (ts : List Tree) (k : KeptLayers)
    → AreNumbered k → AreHeld slots tiles globals k.cells.buckets k.numbers.items ts → Tidies slots tiles globals ts k k
itself_tidy slots tiles globals ts k numbered held =
    record { numbered = numbered; kept = refl; holds = held; right = λ scene right. right }

module _ (slots : FormPool → List Sized) (tiles : List SourceTile) (globals : List (List ℕ × Data)) (ts : List Tree) (old new : KeptLayers)
    (numbers : new.numbers ≡ old.numbers) (reads : new.reads_globals ≡ old.reads_globals) (states : new.state_places ≡ old.state_places)
    (sound : IsSound new.cells.buckets) (keeps : KeepsSources old.cells.buckets new.cells.buckets) where
  tidy_numbered : AreNumbered old → AreNumbered new
  tidy_numbered numbered = record {
    sound = sound;
    apart = subst (λ v. AreApart v.items) (sym numbers) numbered.apart;
    there = subst (λ v. AreThere new.cells.buckets v.items) (sym numbers)
        (there_all old.cells.buckets new.cells.buckets keeps.features old.numbers.items numbered.there);
    bare = tidy_bare old.cells.buckets new.cells.buckets keeps numbered.bare;
    noted = λ off l item. same_globals old.cells.buckets new.cells.buckets keeps l item ∙ numbered.noted (sym reads ∙ off) l item;
    states = subst (λ v. AreNoted (ReadsNoState new.cells.buckets) new.numbers.items (places_in v)) (sym states)
        (subst (λ v. AreNoted (ReadsNoState new.cells.buckets) v.items (places_in old.state_places)) (sym numbers)
        (noted_same (ReadsNoState old.cells.buckets) old.numbers.items (places_in old.state_places) numbered.states (ReadsNoState new.cells.buckets)
        (λ p d within none item. same_state old.cells.buckets new.cells.buckets keeps (get_or old.numbers.items p d) item ∙ none item)));
  }

  pub all_tidy : AreNumbered old → AreHeld slots tiles globals old.cells.buckets old.numbers.items ts
      → AreRenewed slots globals old.numbers.items ts (length old.numbers.items) old.cells.buckets new.cells.buckets → Tidies slots tiles globals ts old new
  all_tidy numbered held renewed =
      let was = old.cells.buckets in
      let now = new.cells.buckets in
      let ns = old.numbers.items in
      record {
        numbered = tidy_numbered numbered;
        kept = ap (λ v. style_kept now v.items) numbers ∙ tidy_kept was now keeps ns;
        holds = subst (λ v. Pairwise (HasLayer slots tiles globals now) v.items ts) (sym numbers)
            (tidy_held was now keeps slots tiles globals ns ts held renewed);
        right = λ scene right. subst (λ v. Pairwise (IsRight slots tiles globals now scene) v.items ts) (sym numbers)
            (tidy_right was now keeps slots tiles globals ns ts scene (pairs_lengths (HasLayer slots tiles globals was) ns ts held) right);
      }

-- ---- a change, and then this

module _ (slots : FormPool → List Sized) (old mid new : KeptLayers) where
  pub turned_tidy : (tiles : List SourceTile) (before after : List (List ℕ × Data)) (ts : List Tree) → TurnsGlobals slots tiles before after ts old mid
      → Tidies slots tiles after ts mid new → TurnsGlobals slots tiles before after ts old new
  turned_tidy tiles before after ts turned tidy = record {
    numbered = tidy.numbered;
    kept = tidy.kept ∙ turned.kept;
    holds = tidy.holds;
    right = λ scene right. tidy.right scene (turned.right scene right);
  }

  pub followed_tidy : (style : StyleLayers) (before : List Tree) (after : StyleKept) → HasFollowed slots style before after old mid
      → Tidies slots (tiles_in style) (globals_in style) (trees_in style) mid new → HasFollowed slots style before after old new
  followed_tidy style before after followed tidy = record {
    numbered = tidy.numbered;
    kept = tidy.kept ∙ followed.kept;
    holds = tidy.holds;
    right = λ scene right. tidy.right scene (followed.right scene right);
  }
