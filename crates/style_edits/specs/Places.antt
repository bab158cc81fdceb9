-- Where the layers are that an edit names.
use Rattle.std.specs.Prelude.{ℕ, List, codes, Option, None}
use Rattle.std.specs.List.{position}
use Rattle.std.specs.Option.{option_and_then}
use Rattle.decimal_json.specs.Accessors.{text_at}
use Rattle.decimal_json.specs.Tree.{Tree}
use Rattle.edit_script.specs.Edit.{Edit, add_layer}
use Rattle.style_edits.specs.Faults.{named_layer, named_before}
use Rattle.style_edits.specs.Layers.{layer_list}
use Rattle.style_edits.specs.declared.places.EditPlaces.{EditPlaces}
use Rattle.style_parts.specs.Parts.{is_id_of}

-- the place of the layer that an id names: of the first that has it, counted from 0
abbrev pub layer_place : List Tree → List ℕ → Option ℕ
layer_place ts id = position (is_id_of id) ts

-- the id of the layer that it adds
abbrev pub added_id : Edit → Option (List ℕ)
added_id (add_layer layer before) = text_at (codes "id") layer
added_id _ = None

abbrev pub places_in : List Tree → Edit → EditPlaces
places_in ts edit = record {
  layer = option_and_then (layer_place ts) (named_layer edit);
  before = option_and_then (layer_place ts) (named_before edit);
  same = option_and_then (layer_place ts) (added_id edit);
}

-- The places of the layers that an edit of a document names. Source: own.
abbrev pub places_of : Tree → Edit → EditPlaces
places_of document edit = places_in (layer_list document) edit
