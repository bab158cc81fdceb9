-- The item of a layer that an edit changes, by its row.
use Rattle.std.proofs.Common.{◌≡◌, ◌<◌, ◌+◌, ℕ, suc, List, [], ◌∷◌, length, refl, ap, arith, Bool, true, false}
use Rattle.std.specs.Prelude.{Option, Some, None, if◌then◌else◌}
use Rattle.decimal_json.specs.Tree.{Tree}
use Rattle.prop_values.specs.Data.{Data}
use Rattle.property_tables.specs.Rows.{RowData, at_place, is_at, row_named, row_of, rows_of}
use Rattle.property_tables.specs.declared.layer_type.LayerType.{LayerType}
use Rattle.prop_values.specs.Equality.{same_text}
use Rattle.property_tables.specs.declared.property_row.Place.{Place}
use Rattle.layer_buckets.specs.declared.cell.CellItem.{CellItem}
use Rattle.style_edits.specs.Layer.{with_property}
use Rattle.style_layout.specs.Layers.{place_key}
use Rattle.kept_layers.specs.Holding.{ChangesItem}
use Rattle.kept_layers.specs.KeptLayers.{type_of}
use Rattle.kept_layers.specs.EditedKept.{item_named, numbered_item}
use Rattle.kept_layers.proofs.ItemLaws.{ChangesNoItem, property_item, property_of_none}

named_within : (n : ℕ) (name : List ℕ) (rows : List RowData) (r : ℕ × RowData) → row_named n name rows ≡ Some r → r.0 < n + length rows
named_within n name [] r e = absurd (cc)
named_within n name (row ∷ rows) r e = by (same_text name row.name) (λ later. named_within (n + 1) name rows r later) e where
  by : (test : Bool) → (row_named (n + 1) name rows ≡ Some r → r.0 < n + 1 + length rows)
      → (if test then Some (n, row) else row_named (n + 1) name rows) ≡ Some r → r.0 < n + suc (length rows)
  by true more found = let first : (n, row) ≡ r = cc in omega (arith, ap (λ (p : ℕ × RowData). p.0) first)
  by false more found = omega (arith, more found)

-- the row of a name is one of the table
pub row_within : (type : LayerType) (place : Place) (name : List ℕ) (r : ℕ × RowData) → row_of type place name ≡ Some r → r.0 < length (rows_of type)
row_within type place name r e = by (row_named 0 name (rows_of type)) refl e where
  at : (found : ℕ × RowData) (test : Bool) → (if test then Some found else None) ≡ Some r → found ≡ r
  at found true is = cc
  at found false is = absurd (cc)

  by : (o : Option (ℕ × RowData)) → row_named 0 name (rows_of type) ≡ o → at_place place o ≡ Some r → r.0 < length (rows_of type)
  by (Some found) named is =
      omega (arith, named_within 0 name (rows_of type) found named, ap (λ (p : ℕ × RowData). p.0) (at found (is_at place found.1.place) is))
  by None named is = absurd (cc)

-- an item, if it is one, of a layer is another
abbrev pub ChangesIf : List (List ℕ × Data) → Option CellItem → Tree → Tree → Type 0
ChangesIf globals (Some item) old new = ChangesItem globals item old new
ChangesIf globals None old new = ChangesNoItem globals old new

type_if : (globals : List (List ℕ × Data)) (item : Option CellItem) (old new : Tree) → ChangesIf globals item old new → type_of new ≡ type_of old
type_if globals (Some item) old new changes = changes.type
type_if globals None old new changes = changes.type

module _ (globals : List (List ℕ × Data)) (place : Place) (name : List ℕ) (value : Tree) where
  pub property_changes : (t : Tree) → ChangesIf globals (item_named place name t) t (with_property (place_key place) name value t)
  property_changes t = by (row_of (type_of t) place name) refl where
    by : (r : Option (ℕ × RowData)) → row_of (type_of t) place name ≡ r
        → ChangesIf globals (numbered_item r) t (with_property (place_key place) name value t)
    by (Some r) found = property_item globals place name value t r found
    by None none = property_of_none globals place name value t none

  pub property_alike : (t : Tree) → item_named place name (with_property (place_key place) name value t) ≡ item_named place name t
  property_alike t = ap (λ type. numbered_item (row_of type place name))
      (type_if globals (item_named place name t) t (with_property (place_key place) name value t) (property_changes t))
