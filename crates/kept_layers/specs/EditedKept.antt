-- What an edit of layers makes of what is kept of them. Source: own.
use Rattle.std.specs.Prelude.{ℕ, List, length, insert, remove, slice_index_or, Option, Some, None, unwrap_or}
use Rattle.std.specs.Prelude.{if◌then◌else◌}
use Rattle.decimal_json.specs.Tree.{Tree, null}
use Rattle.edit_script.specs.Edit as edits
use Rattle.edit_script.specs.Edit.{Edit}
use Rattle.property_tables.specs.Rows.{RowData, row_of}
use Rattle.property_tables.specs.declared.property_row.Place.{Place}
use Rattle.property_tables.specs.declared.property_row.Place.TheVariants.{Layout, Paint}
use Rattle.layer_buckets.specs.declared.cell.CellItem.{CellItem}
use Rattle.layer_buckets.specs.declared.cell.CellItem.TheVariants.{Filter, Property}
use Rattle.style_edits.specs.ByPlace.{place_moved_to}
use Rattle.style_edits.specs.Layers.{is_itself}
use Rattle.style_edits.specs.declared.places.EditPlaces.{EditPlaces}
use Rattle.kept_layers.specs.KeptLayers.{StyleKept, kept_without, none_kept, type_of}

-- the item of a property of the layer at a place; none where the table has no such row
abbrev pub numbered_item : Option (ℕ × RowData) → Option CellItem
numbered_item (Some r) = Some (Property r.0)
numbered_item None = None

abbrev pub item_named : Place → (name : List ℕ) → Tree → Option CellItem
item_named place name t = numbered_item (row_of (type_of t) place name)

-- the cells of an item of the layer at a place are not kept any more
abbrev pub without_cells : ℕ → Option CellItem → StyleKept → StyleKept
without_cells place (Some item) ks = kept_without place item ks
without_cells place None ks = ks

abbrev pub without_item : Option ℕ → (Tree → Option CellItem) → List Tree → StyleKept → StyleKept
without_item (Some place) item ts ks = without_cells place (item (slice_index_or ts place null)) ks
without_item None item ts ks = ks

abbrev pub moved_kept : (from to : ℕ) → StyleKept → StyleKept
moved_kept from to ks = insert (remove ks from) to (slice_index_or ks from none_kept)

abbrev pub moved_from : Option ℕ → Option ℕ → StyleKept → StyleKept
moved_from (Some from) before ks = moved_kept from (place_moved_to from before (length ks)) ks
moved_from None before ks = ks

abbrev pub removed_kept : Option ℕ → StyleKept → StyleKept
removed_kept (Some place) ks = remove ks place
removed_kept None ks = ks

-- What is kept after an edit without fault, whose layers are at these places: a layer that comes has nothing kept, one
-- that goes takes what is kept of it along, and one that moves keeps it.
abbrev pub edited_kept : EditPlaces → Edit → List Tree → StyleKept → StyleKept
edited_kept places (edits.set_paint layer name value) ts ks = without_item places.layer (item_named Paint name) ts ks
edited_kept places (edits.set_layout layer name value) ts ks = without_item places.layer (item_named Layout name) ts ks
edited_kept places (edits.set_filter layer filter) ts ks = without_item places.layer (λ t. Some Filter) ts ks
edited_kept places (edits.add_layer layer before) ts ks = insert ks (unwrap_or places.before (length ks)) none_kept
edited_kept places (edits.remove_layer id) ts ks = removed_kept places.layer ks
edited_kept places (edits.move_layer id before) ts ks =
    if is_itself id before then ks else moved_from places.layer places.before ks
edited_kept places _ ts ks = ks
