-- Layers that read a state are noted, one after another, where the values of the global state are others.
use Rattle.std.proofs.Common.{◌≡◌, ◌+◌, ◌<◌, ◌≤◌, ℕ, List, length, get_or, Bool, false, refl, sym, ap, ◌∙◌, subst, arith, inl, inr}
use Rattle.std.specs.Prelude.{◌⊎◌}
use Rattle.decimal_json.specs.Tree.{Tree, null}
use Rattle.prop_values.specs.Data.{Data}
use Rattle.expr_nodes.specs.Evaluators.{Sized}
use Rattle.layer_buckets.specs.Cells.{reads_state}
use Rattle.layer_buckets.specs.Seen.{source_of}
use Rattle.layer_buckets.specs.declared.buckets.Buckets.{Buckets}
use Rattle.layer_buckets.specs.declared.cell.CellItem.{CellItem}
use Rattle.noted_places.proofs.NotedLaws.{below_with, none_holds, not_yet}
use Rattle.noted_places.specs.Places.{AreBelow, AreNoted, NotesIf, is_noted}
use Rattle.style_layout.specs.Shown.{SourceTile}
use Rattle.cell_sources.specs.CellExpressions.{IsItemOf}
use Rattle.cell_sources.specs.Sourced.{LeavesOthers}
use Rattle.kept_layers.proofs.GlobalLaws.{below_or_last}
use Rattle.kept_layers.proofs.Lists.{apart_at, get_same, pairs_at}
use Rattle.kept_layers.proofs.NumberedLaws.{noted_items}
use Rattle.kept_layers.specs.Holding.{AreApart, AreHeld, HasLayer, ReadsNoState}
use Rattle.kept_layers.specs.KeptLayers.{type_of}

module _ {E : Type 0} (ns : List ℕ) (ts : List Tree) where
  -- of the first layers, those that are not noted have no item of their type that reads a state
  pub record FirstAreNoted (place : ℕ) (b : Buckets E) (ps : List ℕ) : Type 0 where
    pub within : AreBelow (length ns) ps
    pub first : (p : ℕ) → p < place → p < length ns → is_noted ps p ≡ false → (item : CellItem) → IsItemOf (type_of (get_or ts p null)) item
        → reads_state (source_of b (get_or ns p 0) item) ≡ false

  pub none_noted : (b : Buckets E) (ps : List ℕ) → AreBelow (length ns) ps → FirstAreNoted 0 b ps
  none_noted b ps within = record {
    within = within;
    first = λ p h inside off item is. absurd (omega (arith, h));
  }

  module _ (slots : E → List Sized) (place : ℕ) (now new : Buckets E) (ps qs : List ℕ) (noted : FirstAreNoted place now ps) (within : place < length ns)
      (apart : AreApart ns) (leaves : LeavesOthers slots (get_or ns place 0) now new) (reads : Bool)
      (notes : NotesIf reads place ps qs) (this : reads ≡ false → (item : CellItem) → IsItemOf (type_of (get_or ts place null)) item
      → reads_state (source_of new (get_or ns place 0) item) ≡ false) where
    noted_by : (p : ℕ) → p < length ns → is_noted qs p ≡ false → (p ≡ place) ⊎ (p < place)
        → (item : CellItem) → IsItemOf (type_of (get_or ts p null)) item → reads_state (source_of new (get_or ns p 0) item) ≡ false
    noted_by p inside off (inl is) =
        subst (λ k. (item : CellItem) → IsItemOf (type_of (get_or ts k null)) item → reads_state (source_of new (get_or ns k 0) item) ≡ false) (sym is)
        (this (none_holds reads place ps qs notes (ap (is_noted qs) (sym is) ∙ off)))
    noted_by p inside off (inr below) = λ item of_type.
        ap reads_state (leaves.source (get_or ns p 0) item (apart_at ns place p 0 0 within inside (λ e. absurd (omega (arith, e, below))) apart))
        ∙ noted.first p below inside (not_yet reads place ps qs notes p off) item of_type

    -- the next layer is noted where an item of its type reads a state
    pub first_noted : FirstAreNoted (place + 1) new qs
    first_noted = record {
      within = below_with reads place ps qs notes (length ns) within noted.within;
      first = λ p h inside off. noted_by p inside off (below_or_last p place h);
    }

  -- no other item has a source
  pub all_noted : (slots : E → List Sized) (tiles : List SourceTile) (globals : List (List ℕ × Data)) (place : ℕ) (now : Buckets E) (ps : List ℕ)
      → length ns ≤ place → FirstAreNoted place now ps → AreHeld slots tiles globals now ns ts → AreNoted (ReadsNoState now) ns ps
  all_noted slots tiles globals place now ps end noted held = record {
    within = noted.within;
    others = λ p d inside off. subst (ReadsNoState now) (get_same ns p 0 d inside)
        (noted_items reads_state refl slots (get_or ns p 0) globals (type_of (get_or ts p null)) (get_or ts p null) now
        (pairs_at (HasLayer slots tiles globals now) ns ts p 0 null inside held).sources
        (noted.first p (omega (arith, inside, end)) inside off));
  }
