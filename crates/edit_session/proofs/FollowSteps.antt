-- How what is prepared follows each edit: by what takes it back.
use Rattle.std.proofs.Common.{◌≡◌, ◌∙◌, ℕ, ◌<◌, ◌≤◌, List, get_or, set, length, ap, sym, arith, Bool, true, false}
use Rattle.std.specs.Prelude.{insert, remove}
use Rattle.std.proofs.lemmas.Bool.{le-leb, leb-true}
use Rattle.std.proofs.lemmas.List.{length-map}
use Rattle.decimal_json.specs.Tree.{Tree, null, trees_of}
use Rattle.decimal_json.specs.View.{moved_items}
use Rattle.prop_values.specs.Data.{Data}
use Rattle.global_laws.specs.GlobalLaw.{names_globals, items_name_globals}
use Rattle.style_layout.specs.CodeView.{layers_seen}
use Rattle.style_layout.specs.Layers.{StyleLayer}
use Rattle.style_layout.specs.Shown.{SourceTile}
use Rattle.style_layout.specs.StyleLayout.{cell_count}
use Rattle.edit_session.proofs.LayerLists.{changed_back, added_back, removed_back, moved_forth, cells_moved, cells_remove, length_inserted, either_off, off_changed, off_added, off_removed, off_moved}
use Rattle.edit_session.specs.Opening.{within_limit}
use Rattle.edit_session.specs.PreparedLayers.{ArePrepared, Becomes, Follows}
use Rattle.kept_layers.specs.KeptLayers.{outline_of, outlines_of}
use Rattle.edit_session.specs.declared.layers.PreparedLayers.{PreparedLayers}

pub within_less : (limit n m : ℕ) → n ≤ m → within_limit limit m ≡ true → within_limit limit n ≡ true
within_less limit n m h few = le-leb n limit (omega (arith, h, leb-true m limit few))

module _ (tiles : List SourceTile) (globals : List (List ℕ × Data)) (us : List Tree) (old new : PreparedLayers) where
  follows_by : (ls : List StyleLayer) (reads is_done : Bool) → ls ≡ outlines_of globals us
      → (old.reads_globals ≡ false → reads ≡ false → items_name_globals (trees_of us) ≡ false)
      → Becomes tiles ls reads is_done old new → Follows tiles globals us is_done old new
  follows_by ls reads is_done same off b = record {
    limit = b.limit ∙ ap (λ xs. within_limit old.limit (cell_count tiles xs)) same;
    same_limit = b.same_limit;
    prepared = λ h. record {
      layers = b.layers h ∙ same;
      counted = b.counted h ∙ ap (cell_count tiles) same;
      noted = λ q. let parts = either_off old.reads_globals reads (sym (b.noted h) ∙ q) in off parts.0 parts.1;
    };
    stays = b.stays;
  }

  pub changed_follows : (place : ℕ) (was layer : Tree) (is_done : Bool) → ArePrepared tiles globals (set us place was) old → layer ≡ get_or us place null
      → Becomes tiles (set (layers_seen old.style) place (outline_of globals layer)) (names_globals layer) is_done old new
      → Follows tiles globals us is_done old new
  changed_follows place was layer is_done before is =
      follows_by _ (names_globals layer) is_done
      ((λ i. set (before.layers i) place (outline_of globals (is i))) ∙ changed_back (outline_of globals) us place was)
      (λ q r. off_changed us place was (before.noted q) (ap names_globals (sym is) ∙ r))

  pub added_follows : (place : ℕ) (layer : Tree) (is_done : Bool) → place < length us → ArePrepared tiles globals (remove us place) old → layer ≡ get_or us place null
      → Becomes tiles (insert (layers_seen old.style) place (outline_of globals layer)) (names_globals layer) is_done old new
      → Follows tiles globals us is_done old new
  added_follows place layer is_done within before is =
      follows_by _ (names_globals layer) is_done
      ((λ i. insert (before.layers i) place (outline_of globals (is i))) ∙ added_back (outline_of globals) us place within)
      (λ q r. off_added us place (before.noted q) (ap names_globals (sym is) ∙ r))

  pub whole_follows : new.limit ≡ old.limit → within_limit old.limit new.cells ≡ true → ArePrepared tiles globals us new
      → Follows tiles globals us true old new
  whole_follows same few prepared = record {
    limit = sym few ∙ ap (within_limit old.limit) prepared.counted;
    same_limit = same;
    prepared = λ h. prepared;
    stays = λ h. absurd (cc);
  }

  pub removed_follows : (place : ℕ) (was : Tree) → place ≤ length us → ArePrepared tiles globals (insert us place was) old → within_limit old.limit old.cells ≡ true
      → (d : StyleLayer) → layers_seen new.style ≡ remove (layers_seen old.style) place → new.cells ≡ cell_count tiles (remove (layers_seen old.style) place)
      → new.reads_globals ≡ old.reads_globals → new.limit ≡ old.limit → Follows tiles globals us true old new
  removed_follows place was within before few d left cells reads limit =
      let inside : place < length (layers_seen old.style) =
      omega (arith, within, ap length before.layers, length-map (insert us place was) (outline_of globals), length_inserted us place was within) in
      let same : remove (layers_seen old.style) place ≡ outlines_of globals us =
      (λ i. remove (before.layers i) place) ∙ removed_back (outline_of globals) us place was within in
      let counted : old.cells ≡ cell_count tiles (layers_seen old.style) = before.counted ∙ ap (cell_count tiles) (sym before.layers) in
      let fewer = cells_remove tiles (layers_seen old.style) place d inside in
      whole_follows limit (within_less old.limit new.cells old.cells (omega (arith, cells, counted, fewer)) few) (record {
        layers = left ∙ same;
        counted = cells ∙ ap (cell_count tiles) same;
        noted = λ q. off_removed us place was within (before.noted (sym reads ∙ q));
      })

  pub moved_follows : (from to : ℕ) → from < length us → to < length us → ArePrepared tiles globals (moved_items to from us) old → within_limit old.limit old.cells ≡ true
      → (d : StyleLayer) → layers_seen new.style ≡ insert (remove (layers_seen old.style) from) to (get_or (layers_seen old.style) from d)
      → new.cells ≡ old.cells → new.reads_globals ≡ old.reads_globals → new.limit ≡ old.limit → Follows tiles globals us true old new
  moved_follows from to h k before few d moved cells reads limit =
      let f = outline_of globals in
      whole_follows limit (ap (within_limit old.limit) cells ∙ few) (record {
        layers = moved ∙ ((λ i. insert (remove (before.layers i) from) to (get_or (before.layers i) from d)) ∙ moved_forth us from to h k f d);
        counted = cells ∙ (before.counted ∙ cells_moved us from to h k f tiles);
        noted = λ q. off_moved us from to h k (before.noted (sym reads ∙ q));
      })
