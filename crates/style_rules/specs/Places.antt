-- What is reported of each place of a document, by its path. Of two rules that a place breaks the lesser
-- counts.
use Rattle.std.specs.Prelude.{ℕ, zero, suc, ◌-◌, List, length, take, drop, [], ◌∷◌, codes, Bool, false, ◌||◌, Option}
use Rattle.std.specs.Prelude.{Some, None, is_some, if◌then◌else◌}
use Rattle.std.specs.Str.{bytes_eq}
use Rattle.std.specs.Option.{option_and_then}
use Rattle.decimal_json.specs.Tree.{Tree, Trees, no_trees, tree}
use Rattle.decimal_json.specs.declared.paths.PathPart.{PathPart}
use Rattle.decimal_json.specs.declared.paths.PathPart.TheVariants.{Key, Index}
use Rattle.property_tables.specs.Rows.{RowData, row_of, is_unread}
use Rattle.property_tables.specs.declared.layer_type.LayerType.{LayerType}
use Rattle.property_tables.specs.declared.property_row.Place.{Place}
use Rattle.property_tables.specs.declared.property_row.Place.TheVariants.{Layout, Paint}
use Rattle.style_parts.specs.Parts.{sources_of, layers_of, layer_at, is_layers, is_id_of}
use Rattle.value_forms.specs.LayerTypes.{tested_type, place_named}
use Rattle.style_rules.specs.LayerContext.{LayerContext, context_of, is_source}
use Rattle.style_rules.specs.Rules
use Rattle.style_rules.specs.Values.{value_mark, filter_mark}
use Rattle.style_rules.specs.declared.diagnostics.Mark.{Mark}
use Rattle.style_rules.specs.declared.diagnostics.Mark.TheVariants.{Nothing, Broken}

-- the least rule whose test fails
abbrev pub least_broken : List (ℕ × Bool) → Mark
least_broken [] = Nothing
least_broken (r ∷ rs) = if r.1 then least_broken rs else Broken [] r.0

abbrev pub unless_broken : ℕ → Bool → Mark
unless_broken rule holds = least_broken ((rule, holds) ∷ [])

-- ---- the root and its members

abbrev pub root_mark : Tree → Mark
root_mark t = least_broken ((1, Rules.is_document t) ∷ (2, Rules.has_root_members t) ∷ [])

abbrev pub root_member_mark : List ℕ → Tree → Mark
root_member_mark key t =
    if bytes_eq key (codes "version") then unless_broken 3 (Rules.is_version_8 t) else
    if bytes_eq key (codes "sources") then unless_broken 4 (Rules.are_sources t) else
    if bytes_eq key (codes "layers") then unless_broken 5 (Rules.are_layers t) else
    if bytes_eq key (codes "state") then unless_broken 22 (Rules.are_globals t) else
    Nothing

-- a source, or a name of the global state
abbrev pub named_mark : List ℕ → Tree → Mark
named_mark key t =
    if bytes_eq key (codes "sources") then unless_broken 4 (is_source t) else
    if bytes_eq key (codes "state") then unless_broken 22 (Rules.is_global t) else
    Nothing

-- ---- layers

abbrev pub layer_mark : LayerContext → Tree → Mark
layer_mark context layer = least_broken (
    (6, Rules.is_layer layer) ∷
    (7, Rules.has_id layer) ∷
    (9, Rules.has_type layer) ∷
    (10, Rules.has_source context layer) ∷
    (12, Rules.has_source_layer context layer) ∷ [])

-- `layout` and `paint`, of a layer whose type is tested
abbrev pub properties_mark : Option LayerType → Tree → Mark
properties_mark (Some type) t = unless_broken 14 (Rules.are_properties t)
properties_mark None t = Nothing

-- a member of a layer, by the ids of the layers before
abbrev pub member_mark : LayerContext → (List ℕ → Bool) → List ℕ → Tree → Mark
member_mark context used key t =
    if bytes_eq key (codes "id") then least_broken ((7, Rules.is_id t) ∷ (8, Rules.is_new_id used t) ∷ []) else
    if bytes_eq key (codes "type") then unless_broken 9 (Rules.is_type t) else
    if bytes_eq key (codes "source")
    then least_broken ((10, Rules.is_source_name context t) ∷ (11, Rules.has_such_source context) ∷ []) else
    if bytes_eq key (codes "source-layer") then unless_broken 12 (Rules.is_source_layer context t) else
    if bytes_eq key (codes "minzoom") || bytes_eq key (codes "maxzoom")
    then unless_broken 13 (Rules.is_zoom_limit t) else
    if bytes_eq key (codes "layout") || bytes_eq key (codes "paint")
    then properties_mark (tested_type context.type) t else
    if bytes_eq key (codes "filter") then filter_mark t else
    Nothing

-- ---- properties

-- the name before `-transition`, where a name ends so
abbrev pub transition_suffix : List ℕ
transition_suffix = codes "-transition"

abbrev pub before_suffix : List ℕ → List ℕ → Option (List ℕ)
before_suffix suffix name =
    if bytes_eq (drop (length name - length suffix) name) suffix
    then Some (take (length name - length suffix) name) else None

-- a transition of a row of `paint`
abbrev pub is_transition_name : LayerType → Place → List ℕ → Bool
is_transition_name type Layout name = false
is_transition_name type Paint name =
    is_some (option_and_then (row_of type Paint) (before_suffix transition_suffix name))

-- V14: a name is that of a row, an unread one, or that of a transition
abbrev pub unnamed_mark : LayerType → Place → List ℕ → Tree → Mark
unnamed_mark type place name t =
    if is_unread type place name then Nothing else
    if is_transition_name type place name then unless_broken 21 (Rules.is_transition t) else
    Broken [] 14

abbrev pub row_mark : LayerType → Place → List ℕ → Option (ℕ × RowData) → Tree → Mark
row_mark type place name (Some found) t = value_mark found.1 t
row_mark type place name None t = unnamed_mark type place name t

abbrev pub property_mark : Option LayerType → Option Place → List ℕ → Tree → Mark
property_mark (Some type) (Some place) name t = row_mark type place name (row_of type place name) t
property_mark _ _ name t = Nothing

-- ---- what is used before a layer

-- one of the first i layers has this text as its `id`
abbrev pub used_in : Trees → ℕ → List ℕ → Bool
used_in no_trees i id = false
used_in (tree t ts) zero id = false
used_in (tree t ts) (suc i) id = is_id_of id t || used_in ts i id

-- ---- the grounds of a layer, by its number

abbrev pub layer_context : Tree → Option Tree → LayerContext
layer_context document (Some layer) = context_of (sources_of document) layer
layer_context document None = record { type = None; sources = None; source_type = None }

abbrev pub context_at : Tree → ℕ → LayerContext
context_at document i = layer_context document (layer_at i (layers_of document))

-- ---- what is reported of the place of a path

abbrev pub mark_at : Tree → List PathPart → Tree → Mark
mark_at document [] t = root_mark t
mark_at document (Key k ∷ []) t = root_member_mark k t
mark_at document (Key k ∷ Key name ∷ []) t = named_mark k t
mark_at document (Key k ∷ Index i ∷ []) t = if is_layers k then layer_mark (context_at document i) t else Nothing
mark_at document (Key k ∷ Index i ∷ Key m ∷ []) t =
    if is_layers k then member_mark (context_at document i) (used_in (layers_of document) i) m t else Nothing
mark_at document (Key k ∷ Index i ∷ Key m ∷ Key name ∷ []) t =
    if is_layers k then property_mark (tested_type (context_at document i).type) (place_named m) name t else Nothing
mark_at document _ t = Nothing
