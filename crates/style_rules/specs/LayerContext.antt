-- What the rules on a layer depend on: a rule applies only where what it needs is there and well formed.
use Rattle.std.specs.Prelude.{ℕ, List, [], ◌∷◌, codes, Bool, ◌&&◌, Option, Some, None, if◌then◌else◌}
use Rattle.std.specs.Option.{option_and_then}
use Rattle.decimal_json.specs.Tree.{Tree, Fields, field_at}
use Rattle.decimal_json.specs.Accessors.{is_object, text_at}
use Rattle.property_tables.specs.declared.layer_type.LayerType.{LayerType}
use Rattle.style_parts.specs.Parts.{is_among}
use Rattle.value_forms.specs.LayerTypes.{layer_type, is_background}

-- the types of sources
abbrev pub source_types : List (List ℕ)
source_types = codes "vector" ∷ codes "raster" ∷ codes "raster-dem" ∷ codes "geojson" ∷ codes "image" ∷
    codes "video" ∷ []

-- a member of `sources` that is well formed
abbrev pub is_source : Tree → Bool
is_source t = is_object t && is_among source_types (text_at (codes "type") t)

-- the sources among which a layer has to name one: it is none of background, its type is well formed, and
-- `sources` is an object
abbrev pub sources_for : Option Fields → Option LayerType → Option Fields
sources_for sources (Some type) = if is_background type then None else sources
sources_for sources None = None

-- the type of a source that is well formed
abbrev pub source_type : Tree → Option (List ℕ)
source_type t = if is_source t then text_at (codes "type") t else None

-- the type of the source that a layer names, where that is well formed
abbrev pub named_type : Option Fields → Option (List ℕ) → Option (List ℕ)
named_type (Some sources) (Some name) = option_and_then source_type (field_at name sources)
named_type _ _ = None

-- What the members of one layer depend on.
pub record LayerContext : Type 0 where
  -- of the layer
  pub type : Option LayerType
  -- among which it has to name one
  pub sources : Option Fields
  -- of the source that it names among these
  pub source_type : Option (List ℕ)

abbrev pub context_by : Option Fields → Tree → Option LayerType → LayerContext
context_by sources layer type = record {
  type = type;
  sources = sources_for sources type;
  source_type = named_type (sources_for sources type) (text_at (codes "source") layer);
}

-- the grounds of a layer, by the document's `sources` where that is an object
abbrev pub context_of : Option Fields → Tree → LayerContext
context_of sources layer = context_by sources layer (layer_type layer)
