-- What the keys of members name, and what is reported of a member by that.
use Rattle.std.specs.Prelude.{ℕ, List, [], ◌∷◌, codes, Bool, Option, Some, if◌then◌else◌}
use Rattle.std.specs.Str.{bytes_eq}
use Rattle.decimal_json.specs.Tree.{Tree, Fields}
use Rattle.decimal_json.specs.declared.paths.PathPart.{PathPart}
use Rattle.property_tables.specs.declared.property_row.Place.{Place}
use Rattle.property_tables.specs.declared.property_row.Place.TheVariants as places
use Rattle.value_forms.specs.LayerTypes.{tested_type}
use Rattle.style_rules.specs.Findings.{reports_or}
use Rattle.style_rules.specs.LayerContext.{LayerContext}
use Rattle.style_rules.specs.Levels.{fields_reports, fields_or_none, items_or_none, named_reports, layers_reports}
use Rattle.style_rules.specs.Levels.{property_reports}
use Rattle.style_rules.specs.Places.{least_broken, unless_broken, properties_mark, used_in}
use Rattle.style_rules.specs.Rules
use Rattle.style_rules.specs.Values.{filter_mark}
use Rattle.style_rules.specs.declared.keys.MemberKey.{MemberKey}
use Rattle.style_rules.specs.declared.keys.MemberKey.TheVariants as members
use Rattle.style_rules.specs.declared.keys.RootKey.{RootKey}
use Rattle.style_rules.specs.declared.keys.RootKey.TheVariants as roots
use Rattle.style_rules.specs.declared.diagnostics.Diagnostic.{Diagnostic}

abbrev pub root_key : List ℕ → RootKey
root_key key =
    if bytes_eq key (codes "version") then roots.Version else
    if bytes_eq key (codes "sources") then roots.Sources else
    if bytes_eq key (codes "layers") then roots.Layers else
    if bytes_eq key (codes "state") then roots.State else
    roots.Other

abbrev pub member_key : List ℕ → MemberKey
member_key key =
    if bytes_eq key (codes "id") then members.Id else
    if bytes_eq key (codes "type") then members.Type else
    if bytes_eq key (codes "source") then members.Source else
    if bytes_eq key (codes "source-layer") then members.SourceLayer else
    if bytes_eq key (codes "minzoom") then members.ZoomLimit else
    if bytes_eq key (codes "maxzoom") then members.ZoomLimit else
    if bytes_eq key (codes "layout") then members.Layout else
    if bytes_eq key (codes "paint") then members.Paint else
    if bytes_eq key (codes "filter") then members.Filter else
    members.Other

-- of a member of the document, by its `sources`
abbrev pub root_keyed_reports : Option Fields → RootKey → List PathPart → Tree → List Diagnostic
root_keyed_reports sources roots.Version path t = reports_or (unless_broken 3 (Rules.is_version_8 t)) path []
root_keyed_reports sources roots.Sources path t =
    reports_or (unless_broken 4 (Rules.are_sources t)) path
    (fields_reports (named_reports (codes "sources") path) (fields_or_none t))
root_keyed_reports sources roots.Layers path t =
    reports_or (unless_broken 5 (Rules.are_layers t)) path
    (layers_reports sources (used_in (items_or_none t)) path 0 (items_or_none t))
root_keyed_reports sources roots.State path t =
    reports_or (unless_broken 22 (Rules.are_globals t)) path
    (fields_reports (named_reports (codes "state") path) (fields_or_none t))
root_keyed_reports sources roots.Other path t = []

abbrev pub placed_reports : LayerContext → Place → List PathPart → Tree → List Diagnostic
placed_reports context place path t =
    reports_or (properties_mark (tested_type context.type) t) path
    (fields_reports (property_reports (tested_type context.type) (Some place) path) (fields_or_none t))

-- of a member of a layer, by the ids of the layers before
abbrev pub keyed_reports : LayerContext → (List ℕ → Bool) → MemberKey → List PathPart → Tree → List Diagnostic
keyed_reports context used members.Id path t =
    reports_or (least_broken ((7, Rules.is_id t) ∷ (8, Rules.is_new_id used t) ∷ [])) path []
keyed_reports context used members.Type path t = reports_or (unless_broken 9 (Rules.is_type t)) path []
keyed_reports context used members.Source path t =
    reports_or (least_broken ((10, Rules.is_source_name context t) ∷ (11, Rules.has_such_source context) ∷ [])) path []
keyed_reports context used members.SourceLayer path t =
    reports_or (unless_broken 12 (Rules.is_source_layer context t)) path []
keyed_reports context used members.ZoomLimit path t = reports_or (unless_broken 13 (Rules.is_zoom_limit t)) path []
keyed_reports context used members.Layout path t = placed_reports context places.Layout path t
keyed_reports context used members.Paint path t = placed_reports context places.Paint path t
keyed_reports context used members.Filter path t = reports_or (filter_mark t) path []
keyed_reports context used members.Other path t = []
