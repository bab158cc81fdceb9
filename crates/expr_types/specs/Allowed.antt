-- What a value or a filter may read, and where the zoom may be in a value. Source: MapLibre style
-- specification, version 8, layers.
use Rattle.std.specs.Prelude.{ℕ, List, [], ◌∷◌, Bool, true, false, not, ◌&&◌, ◌||◌, Option, Some, None, if◌then◌else◌}
use Rattle.decimal_json.specs.declared.paths.PathPart.{PathPart}
use Rattle.property_tables.specs.Rows.{RowData}
use Rattle.expr_syntax.specs.declared.world_parts.Mentions.{Mentions}
use Rattle.expr_types.specs.Visits.{Visit}
use Rattle.expr_types.specs.declared.standing.Standing.{Standing}
use Rattle.expr_types.specs.declared.standing.Standing.TheVariants.{Input}

-- what may be read: the row of a property says it, and a filter reads no feature state
abbrev pub Allowed : Type 0
Allowed = Mentions → Bool

abbrev pub row_allows : RowData → Allowed
row_allows row m =
    (row.reads.zoom || not m.zoom) && ((row.reads.feature || not m.feature) && (row.reads.state || not m.state))

abbrev pub filter_allows : Allowed
filter_allows m = not m.state

abbrev pub allowed_by : Option RowData → Allowed
allowed_by (Some row) = row_allows row
allowed_by None = filter_allows

-- the first node that reads what may not be read there
abbrev pub first_unread : Allowed → List Visit → Option (List PathPart)
first_unread allows [] = None
first_unread allows (v ∷ vs) = if allows v.reads then first_unread allows vs else Some v.path

abbrev pub is_input : Standing → Bool
is_input Input = true
is_input standing = false

-- The first `zoom` that is no input of a root, or is after another. A filter has it anywhere.
abbrev pub first_zoom_after : List Visit → Option (List PathPart)
first_zoom_after [] = None
first_zoom_after (v ∷ vs) = if v.reads.zoom then Some v.path else first_zoom_after vs

abbrev pub first_stray_zoom : List Visit → Option (List PathPart)
first_stray_zoom [] = None
first_stray_zoom (v ∷ vs) =
    if v.reads.zoom then (if is_input v.standing then first_zoom_after vs else Some v.path) else first_stray_zoom vs

abbrev pub stray_zoom_by : Option RowData → List Visit → Option (List PathPart)
stray_zoom_by (Some row) vs = first_stray_zoom vs
stray_zoom_by None vs = None
