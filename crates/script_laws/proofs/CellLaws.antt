-- Where a layer is removed or moved, or its range is set, no cell comes to a document.
use Rattle.std.proofs.Common.{◌≡◌, ℕ, ◌≤◌, List, refl, sym, subst, arith, true}
use Rattle.std.specs.Prelude.{codes}
use Rattle.decimal_json.specs.Accessors.{member}
use Rattle.decimal_json.specs.Tree.{Tree}
use Rattle.prop_values.specs.Data.{Data}
use Rattle.edit_script.specs.Edit as edits
use Rattle.edit_script.specs.Edit.{Edit}
use Rattle.style_edits.specs.Edited.{edited, edited_layers}
use Rattle.style_edits.specs.Layer.{with_range}
use Rattle.style_layout.specs.Layers.{style_layers}
use Rattle.style_layout.specs.Shown.{SourceTile}
use Rattle.style_layout.specs.StyleLayout.{cell_count}
use Rattle.edit_session.proofs.RangedCells.{changed_same, document_by, moved_same, range_same, total, without_less}
use Rattle.script_laws.specs.ScriptLaw.{rearranges}

module _ (tiles : List SourceTile) (globals : List (List ℕ × Data)) where
  rearranged : (edit : Edit) → rearranges edit ≡ true → (ts : List Tree) → total tiles globals (edited_layers edit ts) ≤ total tiles globals ts
  rearranged (edits.remove_layer id) h ts = without_less tiles globals id ts
  rearranged (edits.move_layer id before) h ts = subst (λ n. n ≤ total tiles globals ts) (sym (moved_same tiles globals id before ts)) (omega arith)
  rearranged (edits.set_range layer min max) h ts =
      subst (λ n. n ≤ total tiles globals ts) (sym (changed_same tiles globals layer (with_range min max) (range_same tiles globals min max) ts)) (omega arith)
  rearranged _ h ts = absurd (cc)

  pub no_cell_comes : (document : Tree) (edit : Edit) → rearranges edit ≡ true →
      cell_count tiles (style_layers globals (edited document edit)) ≤ cell_count tiles (style_layers globals document)
  no_cell_comes document edit h =
      document_by tiles globals (edited_layers edit) (rearranged edit h) document (member (codes "layers") document) refl
