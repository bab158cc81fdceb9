-- A migrated style opens and is listed as the style is.
use Rattle.std.proofs.Common.{◌≡◌, ◌∙◌, [], ◌∷◌, refl, ap, sym}
use Rattle.std.specs.Prelude.{codes, not, Some, is_some, option_map}
use Rattle.std.specs.Bool.{then_some}
use Rattle.std.specs.Option.{option_and_then, option_or}
use Rattle.decimal_json.specs.Accessors.{member, text_at}
use Rattle.decimal_json.specs.Tree.{Tree, Trees, no_trees, tree}
use Rattle.edit_script.specs.Form.{elements_of}
use Rattle.edit_session.specs.Opening.{unknown_source, not_vector, zoom_range, first_failing, cells_fault, tiles_fault, findings_fault}
use Rattle.edit_session.specs.SessionState.{scene_of}
use Rattle.kept_layers.specs.Changes.{nothing_kept}
use Rattle.kept_layers.specs.KeptLayers.{StyleKept, none_kept}
use Rattle.listing_text.specs.Listing.{listing}
use Rattle.migrate_laws.specs.MigratedLaw.{MigratedDocumentsGiveTheSameGlobals, MigratedDocumentsHaveTheSameLayout}
use Rattle.migrate_laws.proofs.MappedMembers.{map_kept}
use Rattle.migrate_laws.proofs.MigratedParts.{migrated_layers, values_at}
use Rattle.migrate_soundness.specs.SoundnessLaw.{SoundDocumentsStaySound}
use Rattle.style_edits.specs.Causes.{first_cause}
use Rattle.style_edits.specs.Layers.{layer_list}
use Rattle.style_layout.specs.Globals.{globals_of}
use Rattle.style_layout.specs.Layers.{style_layers}
use Rattle.style_layout.specs.StyleLayout.{cell_count}
use Rattle.style_migrate.specs.Migrated.{mapped_items, migrated, migrated_layer, migrated_part}
use Rattle.style_parts.specs.Numbers.{is_zoom}
use Rattle.style_parts.specs.Parts.{is_among, layers_of}
use Rattle.migrated_sessions.specs.OpeningLaw.{MigratedDocumentsHaveAsManyCells, MigratedStylesOpenAlike}
use Rattle.migrated_sessions.specs.OpeningLaw.{MigratedSessionsBeginAlike, MigratedStylesAreListedAlike}

sources_kept : (document : Tree) → member (codes "sources") (migrated document) ≡ member (codes "sources") document
sources_kept document =
    values_at migrated_part (codes "sources") document
    ∙ map_kept (migrated_part (codes "sources")) (member (codes "sources") document) (λ t. refl)

pub styles_open_alike : MigratedDocumentsHaveAsManyCells → MigratedDocumentsGiveTheSameGlobals → SoundDocumentsStaySound → MigratedStylesOpenAlike
styles_open_alike as_many globals stays document distinct none limit tiles zoom =
    let sources = sources_kept document in
    let cells : cell_count tiles (style_layers (globals_of (migrated document)) (migrated document)) ≡ cell_count tiles (style_layers (globals_of document) document) =
    ap (λ gs. cell_count tiles (style_layers gs (migrated document))) (globals document) ∙ as_many tiles (globals_of document) document in
    let same : tiles_fault limit (migrated document) tiles zoom ≡ tiles_fault limit document tiles zoom =
    λ i. first_cause (
    option_map unknown_source (first_failing (λ name. is_some (option_and_then (member name) (sources i))) tiles) ∷
    option_map not_vector (first_failing (λ name. is_among (codes "vector" ∷ []) (option_and_then (text_at (codes "type")) (option_and_then (member name) (sources i)))) tiles) ∷
    cells_fault limit (cells i) ∷
    then_some (not (is_zoom (Some zoom))) zoom_range ∷ []) in
    let found = stays document distinct none ∙ sym none in
    λ i. option_or (findings_fault (found i)) (same i)

-- as many layers have nothing kept
as_many_layers : (ts : Trees) → nothing_kept (elements_of (mapped_items migrated_layer ts)) ≡ nothing_kept (elements_of ts)
as_many_layers no_trees = refl
as_many_layers (tree t ts) = ap (λ (ks : StyleKept). none_kept ∷ ks) (as_many_layers ts)

nothing_kept_alike : (document : Tree) → nothing_kept (layer_list (migrated document)) ≡ nothing_kept (layer_list document)
nothing_kept_alike document =
    ap (λ (ts : Trees). nothing_kept (elements_of ts)) (migrated_layers document) ∙ as_many_layers (layers_of document)

pub sessions_begin_alike : MigratedDocumentsGiveTheSameGlobals → MigratedSessionsBeginAlike
sessions_begin_alike globals limit document zoom has_image =
    let same_globals = globals document in
    let same_kept = nothing_kept_alike document in
    λ i. record {
      document = migrated document;
      zoom = zoom;
      states = λ source layer id. [];
      has_image = has_image;
      globals = same_globals i;
      limit = limit;
      kept = same_kept i;
      last = 0;
    }

pub styles_are_listed_alike : MigratedDocumentsHaveTheSameLayout → MigratedStylesAreListedAlike
styles_are_listed_alike same tiles scripts p = ap listing (same (scene_of scripts p) tiles p.globals p.document)
