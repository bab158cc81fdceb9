-- Which trees have the form of a command. Source: own.
use Rattle.std.specs.Prelude.{ℕ, List, [], ◌∷◌, Option, Some, None, codes, option_map, option_and_then}
use Rattle.std.specs.Map.{lookup}
use Rattle.std.specs.Str.{bytes_eq}
use Rattle.decimal_json.specs.Tree.{Tree, null, number, text, list, object, Trees, no_trees, tree, Fields}
use Rattle.edit_script.specs.Edit as edits
use Rattle.edit_script.specs.Edit.{Edit}

-- What a line of a form says before its numbers are read. A number is still its text.
pub data LineForm : Type 0 where
  -- an edit without a number that has to be in a range
  plain : Edit → LineForm
  -- layer, min, max
  range : List ℕ → Option (List ℕ) → Option (List ℕ) → LineForm
  zoom : List ℕ → LineForm
  -- source, source layer, id, members
  state : List ℕ → List ℕ → List ℕ → Fields → LineForm
  -- source, source layer, id, key
  removal : List ℕ → List ℕ → List ℕ → Option (List ℕ) → LineForm
  -- name, value
  global : List ℕ → Tree → LineForm

-- ---- elements that may be null

abbrev pub text_or_null : Tree → Option (Option (List ℕ))
text_or_null (text s) = Some (Some s)
text_or_null null = Some None
text_or_null _ = None

abbrev pub number_or_null : Tree → Option (Option (List ℕ))
number_or_null (number n) = Some (Some n)
number_or_null null = Some None
number_or_null _ = None

-- ---- the forms by the elements after the name

abbrev pub property_form : (List ℕ → List ℕ → Tree → Edit) → List Tree → Option LineForm
property_form edit (text layer ∷ text name ∷ value ∷ []) = Some (plain (edit layer name value))
property_form edit _ = None

abbrev pub filter_form : List Tree → Option LineForm
filter_form (text layer ∷ filter ∷ []) = Some (plain (edits.set_filter layer filter))
filter_form _ = None

abbrev pub range_form : List Tree → Option LineForm
range_form (text layer ∷ min ∷ max ∷ []) =
    option_and_then (λ least. option_map (range layer least) (number_or_null max)) (number_or_null min)
range_form _ = None

abbrev pub addition_form : List Tree → Option LineForm
addition_form (layer ∷ before ∷ []) = option_map (λ id. plain (edits.add_layer layer id)) (text_or_null before)
addition_form _ = None

abbrev pub move_form : List Tree → Option LineForm
move_form (text layer ∷ before ∷ []) = option_map (λ id. plain (edits.move_layer layer id)) (text_or_null before)
move_form _ = None

abbrev pub zoom_form : List Tree → Option LineForm
zoom_form (number z ∷ []) = Some (zoom z)
zoom_form _ = None

abbrev pub state_form : List Tree → Option LineForm
state_form (text source ∷ text layer ∷ number id ∷ object members ∷ []) = Some (state source layer id members)
state_form _ = None

abbrev pub removal_form : List Tree → Option LineForm
removal_form (text source ∷ text layer ∷ number id ∷ key ∷ []) = option_map (removal source layer id) (text_or_null key)
removal_form _ = None

abbrev pub global_form : List Tree → Option LineForm
global_form (text name ∷ value ∷ []) = Some (global name value)
global_form _ = None

-- a text alone
abbrev pub text_form : (List ℕ → Edit) → List Tree → Option LineForm
text_form edit (text s ∷ []) = Some (plain (edit s))
text_form edit _ = None

-- no element
abbrev pub bare_form : Edit → List Tree → Option LineForm
bare_form edit [] = Some (plain edit)
bare_form edit _ = None

-- ---- the table: a name, and the form of the elements after it

abbrev pub rows : List (List ℕ × (List Tree → Option LineForm))
rows =
    (codes "set-paint", property_form edits.set_paint) ∷
    (codes "set-layout", property_form edits.set_layout) ∷
    (codes "set-filter", filter_form) ∷
    (codes "set-range", range_form) ∷
    (codes "add-layer", addition_form) ∷
    (codes "remove-layer", text_form edits.remove_layer) ∷
    (codes "move-layer", move_form) ∷
    (codes "set-zoom", zoom_form) ∷
    (codes "set-state", state_form) ∷
    (codes "remove-state", removal_form) ∷
    (codes "add-image", text_form edits.add_image) ∷
    (codes "remove-image", text_form edits.remove_image) ∷
    (codes "set-global", global_form) ∷
    (codes "list", bare_form edits.list) ∷
    (codes "stats", bare_form edits.stats) ∷
    (codes "style", bare_form edits.style) ∷ []

-- ---- a line

-- the elements of an array
abbrev pub elements_of : Trees → List Tree
elements_of no_trees = []
elements_of (tree t ts) = t ∷ elements_of ts

-- the form of a name and the elements after it
abbrev pub form_named : List ℕ → List Tree → Option LineForm
form_named name elements = option_and_then (λ form. form elements) (lookup (bytes_eq name) rows)

abbrev pub array_form : List Tree → Option LineForm
array_form (text name ∷ elements) = form_named name elements
array_form _ = None

-- The form of a tree, or nothing where it has none.
abbrev pub form_of : Tree → Option LineForm
form_of (list ts) = array_form (elements_of ts)
form_of _ = None
