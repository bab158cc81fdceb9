-- Documents whose layers are prepared one by one.
use Rattle.std.proofs.Common.{◌≡◌, ◌∙◌, ◌≤◌, ℕ, List, [], ◌∷◌, map, refl, ap, arith, sym, subst, Bool, true, false, Some, None}
use Rattle.std.proofs.lemmas.Bool.{leb-true}
use Rattle.std.specs.Prelude.{codes, if◌then◌else◌}
use Rattle.decimal_json.specs.Tree.{Tree, list, trees_of}
use Rattle.edit_script.proofs.Elements.{elements_made}
use Rattle.edit_findings.proofs.DocumentLaws.{elements_back, of_layers}
use Rattle.edit_findings.proofs.TypedLaws.{layers_typed}
use Rattle.edit_findings.specs.FoundAfter.{Each}
use Rattle.prop_values.specs.Data.{Data}
use Rattle.global_laws.specs.GlobalLaw.{items_name_globals}
use Rattle.style_edits.proofs.DocumentLaws.{listed}
use Rattle.style_edits.proofs.ObjectLaws.{member_replaced}
use Rattle.style_edits.specs.Layers.{layer_list, with_list, with_changed, with_layers}
use Rattle.style_edits.specs.Taking.{HasLayers}
use Rattle.style_edits.specs.Undone.{IsUndo, undone_layers}
use Rattle.style_edits.specs.declared.undo.Undo.{Undo}
use Rattle.style_parts.specs.Parts.{layers_of, sources_of}
use Rattle.style_layout.specs.CodeView.{layers_seen}
use Rattle.style_layout.specs.Layers.{layers_in, style_layers}
use Rattle.style_layout.specs.Outlines.{layer_outline}
use Rattle.style_layout.specs.Shown.{SourceTile}
use Rattle.style_layout.specs.StyleLayout.{cell_count}
use Rattle.style_rules.specs.Findings.{findings}
use Rattle.style_rules.specs.Levels.{HasDistinctMembers}
use Rattle.edit_session.proofs.AppliedLaws.{whole_by_cells}
use Rattle.edit_session.proofs.LayerLists.{all_prepared}
use Rattle.edit_session.specs.Applied.{limit_refusal, whole_refusal}
use Rattle.edit_session.specs.Opening.{cell_limit, within_limit}
use Rattle.edit_session.specs.PreparedLayers.{ArePrepared}
use Rattle.kept_layers.proofs.OneLayers.{cells_of_outlines, outlines_again}
use Rattle.kept_layers.specs.KeptLayers.{outlines_of, prepared_layers}
use Rattle.kept_layers.specs.View.{AreTyped, IsPrepared, IsTyped, globals_in, tiles_in, trees_in}
use Rattle.kept_layers.specs.declared.style_layers.StyleLayers.{StyleLayers}
use Rattle.edit_session.specs.View.{IsWholeDocument}
use Rattle.edit_session.specs.declared.answer.Refusal.TheVariants.{CellLimit}
use Rattle.edit_session.specs.declared.layers.PreparedLayers.{PreparedLayers}

each_typed : (ts : List Tree) → Each IsTyped ts → AreTyped ts
each_typed [] typed = tt
each_typed (t ∷ ts) typed = (typed.0, each_typed ts typed.1)

pub typed_layers : (d : Tree) → HasDistinctMembers d → findings d ≡ [] → AreTyped (layer_list d)
typed_layers d distinct none =
    each_typed (layer_list d) (layers_typed (sources_of d) (layer_list d) (of_layers d distinct none).0.found)

-- the layers of a document once they are changed
pub changed_list : (d : Tree) (ts : List Tree) → HasLayers d ts → (change : List Tree → List Tree) → layer_list (with_layers change d) ≡ change ts
changed_list d ts there change =
    let made = ap (λ o. with_changed change o d) there ∙ ap (λ us. with_list (change us) d) (elements_made ts) in
    ap layer_list made ∙ listed (with_list (change ts) d) (change ts) (member_replaced (codes "layers") (list (trees_of ts)) (list (trees_of (change ts))) d there)

pub before_edit : (undo : Undo) (before after : Tree) (us : List Tree) → IsUndo undo before after → HasLayers after (layer_list after) → us ≡ layer_list after
    → layer_list before ≡ undone_layers undo us
before_edit undo before after us back there is =
    ap layer_list (sym back.1) ∙ (changed_list after (layer_list after) there (undone_layers undo) ∙ ap (undone_layers undo) (sym is))

module _ (tiles : List SourceTile) (globals : List (List ℕ × Data)) where
  pub style_is : (d : Tree) → AreTyped (layer_list d) → style_layers globals d ≡ prepared_layers globals (layer_list d)
  style_is d typed =
      ap (layers_in globals) (sym (elements_back (layers_of d))) ∙ all_prepared globals (layer_list d) typed

  pub is_prepared : (d : Tree) (p : PreparedLayers) (us : List Tree) → IsWholeDocument tiles globals d p → AreTyped (layer_list d) → layer_list d ≡ us
      → ArePrepared tiles globals us p
  is_prepared d p us whole typed is =
      let same = style_is d typed ∙ ap (prepared_layers globals) is in
      record {
        layers = whole.is_prepared ∙ (ap (map layer_outline) same ∙ outlines_again globals us);
        counted = whole.is_counted ∙ (ap (cell_count tiles) same ∙ sym (cells_of_outlines tiles globals us));
        noted = λ off. ap items_name_globals (ap trees_of (sym is) ∙ elements_back (layers_of d)) ∙ whole.is_noted off;
      }

  -- a count within the limit is not refused
  unlimited : (limit count : ℕ) → within_limit limit count ≡ true → limit_refusal limit count ≡ None
  unlimited limit count h = ap (λ b. if b then None else Some CellLimit) h

  limited : (limit count : ℕ) → within_limit limit count ≡ false → limit_refusal limit count ≡ Some CellLimit
  limited limit count h = ap (λ b. if b then None else Some CellLimit) h

  within : (limit count : ℕ) (b : Bool) → within_limit limit count ≡ b → limit_refusal limit count ≡ None → within_limit limit count ≡ true
  within limit count true is h = is
  within limit count false is h = absurd (let e = sym (limited limit count is) ∙ h in cc)

  pub few_cells : (d : Tree) (p : PreparedLayers) → IsWholeDocument tiles globals d p → findings d ≡ [] → within_limit p.limit p.cells ≡ true
  few_cells d p whole none =
      let count = cell_count tiles (style_layers globals d) in
      ap (within_limit p.limit) whole.is_counted
      ∙ within p.limit count (within_limit p.limit count) refl (sym (whole_by_cells p.limit tiles globals d none) ∙ whole.is_accepted)

  -- the layers of a document, as what is kept sees them
  pub style_prepared : (d : Tree) (p : PreparedLayers) (style : StyleLayers) → IsWholeDocument tiles globals d p
      → findings d ≡ [] → AreTyped (layer_list d) → trees_in style ≡ layer_list d → globals_in style ≡ globals
      → tiles_in style ≡ tiles → layers_seen style.style.now ≡ layers_seen p.style → IsPrepared style
  style_prepared d p style whole none typed layers values over seen =
      let same : cell_count (tiles_in style) (prepared_layers (globals_in style) (trees_in style)) ≡ p.cells =
      (λ k. cell_count (over k) (prepared_layers (values k) (layers k)))
      ∙ (ap (cell_count tiles) (sym (style_is d typed)) ∙ sym whole.is_counted) in
      record {
        typed = subst AreTyped (sym layers) typed;
        prepared = seen ∙ (whole.is_prepared ∙ (ap (map layer_outline) (style_is d typed)
            ∙ (outlines_again globals (layer_list d) ∙ (λ k. outlines_of (sym values k) (sym layers k)))));
        few = let few = leb-true p.cells p.limit (few_cells d p whole none) in
            omega (arith, same, few, whole.is_limited);
      }

  module _ (limit : ℕ) (d : Tree) (none : findings d ≡ []) (typed : AreTyped (layer_list d)) (us : List Tree) (is : us ≡ layer_list d) where
    same_layers : style_layers globals d ≡ prepared_layers globals us
    same_layers = style_is d typed ∙ ap (prepared_layers globals) (sym is)

    same_cells : cell_count tiles (style_layers globals d) ≡ cell_count tiles (outlines_of globals us)
    same_cells = ap (cell_count tiles) same_layers ∙ sym (cells_of_outlines tiles globals us)

    same_limit : (b : Bool) → b ≡ within_limit limit (cell_count tiles (outlines_of globals us))
        → within_limit limit (cell_count tiles (style_layers globals d)) ≡ b
    same_limit b h = ap (within_limit limit) same_cells ∙ sym h

    pub not_refused : true ≡ within_limit limit (cell_count tiles (outlines_of globals us)) → whole_refusal limit tiles globals d ≡ None
    not_refused h = whole_by_cells limit tiles globals d none ∙ unlimited limit _ (same_limit true h)

    pub is_refused : false ≡ within_limit limit (cell_count tiles (outlines_of globals us))
        → whole_refusal limit tiles globals d ≡ Some CellLimit
    is_refused h = whole_by_cells limit tiles globals d none ∙ limited limit _ (same_limit false h)

    pub is_whole : (p : PreparedLayers) → p.limit ≡ limit → limit ≤ cell_limit → true ≡ within_limit limit (cell_count tiles (outlines_of globals us))
        → ArePrepared tiles globals us p → IsWholeDocument tiles globals d p
    is_whole p same few h prepared = record {
      is_limited = subst (λ n. n ≤ cell_limit) (sym same) few;
      is_accepted = ap (λ n. whole_refusal n tiles globals d) same ∙ not_refused h;
      is_prepared = prepared.layers ∙ (sym (outlines_again globals us) ∙ ap (map layer_outline) (sym same_layers));
      is_counted = prepared.counted ∙ sym same_cells;
      is_noted = λ off. ap items_name_globals (sym (ap trees_of is ∙ elements_back (layers_of d))) ∙ prepared.noted off;
    }
