-- Which cells a cause names. Source: own.
use Rattle.std.specs.Prelude.{ℕ, Bool, true, false, ◌&&◌, ◌||◌, Option, Some, None, nat_eq}
use Rattle.layer_buckets.specs.declared.cell.Cell.{Cell}
use Rattle.layer_buckets.specs.declared.cell.CellItem.{CellItem}
use Rattle.layer_buckets.specs.declared.cell.CellItem.TheVariants.{Filter, Property}
use Rattle.layer_buckets.specs.declared.cell.Source.{Source}
use Rattle.layer_buckets.specs.declared.cell.Stale.{Stale}
use Rattle.layer_buckets.specs.declared.cell.Stale.TheVariants.{Item, Layer, Zoom, State, Images, Globals}

abbrev pub item_eq : CellItem → CellItem → Bool
item_eq Filter Filter = true
item_eq Filter (Property b) = false
item_eq (Property a) Filter = false
item_eq (Property a) (Property b) = nat_eq a b

abbrev pub feature_eq : Option ℕ → Option ℕ → Bool
feature_eq None None = true
feature_eq None (Some b) = false
feature_eq (Some a) None = false
feature_eq (Some a) (Some b) = nat_eq a b

abbrev pub is_item : ℕ → CellItem → ℕ → CellItem → Bool
is_item layer item other_layer other_item = nat_eq layer other_layer && item_eq item other_item

abbrev pub cell_eq : Cell → Cell → Bool
cell_eq a b = is_item a.layer a.item b.layer b.item && feature_eq a.feature b.feature

abbrev pub is_zoomed : Bool → Option Source → Bool
is_zoomed floor (Some s) = s.mentions.zoom && (s.paint || floor)
is_zoomed floor None = false

abbrev pub reads_state : Option Source → Bool
reads_state (Some s) = s.mentions.state
reads_state None = false

abbrev pub reads_images : Option Source → Bool
reads_images (Some s) = s.mentions.image
reads_images None = false

abbrev pub reads_globals : Option Source → Bool
reads_globals (Some s) = s.globals
reads_globals None = false

-- Whether a cause names a cell whose item has this source. A change of the zoom names paint cells that mention it,
-- and other cells that do where the floor changes as well.
abbrev pub names : Stale → Cell → Option Source → Bool
names (Item layer item) cell source = is_item layer item cell.layer cell.item
names (Layer layer) cell source = nat_eq layer cell.layer
names (Zoom floor) cell source = is_zoomed floor source
names (State layer feature) cell source =
    (nat_eq layer cell.layer && feature_eq (Some feature) cell.feature) && reads_state source
names Images cell source = reads_images source
names Globals cell source = reads_globals source
