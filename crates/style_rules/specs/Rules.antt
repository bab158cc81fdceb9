-- The rules on a document but for those on the values of properties and on filters, in their order. Each is a
-- test, which holds where the rule does not apply. Source: own.
use Rattle.std.specs.Prelude.{ℕ, suc, pos, List, [], ◌∷◌, codes, nat_le, Bool, true, false, ◌&&◌, ◌||◌, not, Option}
use Rattle.std.specs.Prelude.{Some, None, is_some, Result, Ok, Err}
use Rattle.decimal_json.specs.Tree.{Tree, list, Trees, no_trees, tree, Fields, field_at}
use Rattle.decimal_json.specs.Accessors.{member, has, is_object, is_text, text_in}
use Rattle.prop_values.specs.Data.{Data}
use Rattle.prop_values.specs.JsonData.{json_data}
use Rattle.fixed_num.specs.declared.decimal.NumFault.{NumFault}
use Rattle.property_tables.specs.declared.layer_type.LayerType.{LayerType}
use Rattle.property_tables.specs.declared.layer_type.LayerType.TheVariants.{Raster, Hillshade, ColorRelief}
use Rattle.style_parts.specs.Parts.{is_among}
use Rattle.style_parts.specs.Numbers.{number_in, is_equal, is_zoom}
use Rattle.value_forms.specs.LayerTypes.{type_in}
use Rattle.style_rules.specs.LayerContext.{LayerContext}

-- V1: the document is an object
abbrev pub is_document : Tree → Bool
is_document t = is_object t

-- V2: it has `version`, `sources` and `layers`
abbrev pub has_root_members : Tree → Bool
has_root_members t = has (codes "version") t && (has (codes "sources") t && has (codes "layers") t)

-- V3: `version` is the number 8
abbrev pub is_version_8 : Tree → Bool
is_version_8 t = is_equal (pos 8000000) (number_in t)

-- V4: `sources` is an object, and each member of it is one whose `type` is that of a source
abbrev pub are_sources : Tree → Bool
are_sources t = is_object t

-- V5: `layers` is an array of at most 65,536 elements
abbrev pub count_of : Trees → ℕ
count_of no_trees = 0
count_of (tree t ts) = suc (count_of ts)

abbrev pub are_layers : Tree → Bool
are_layers (list ts) = nat_le (count_of ts) 65536
are_layers _ = false

-- V6: each element of `layers` is an object
abbrev pub is_layer : Tree → Bool
is_layer t = is_object t

-- V7: `id` is there and is a text
abbrev pub has_id : Tree → Bool
has_id layer = has (codes "id") layer

abbrev pub is_id : Tree → Bool
is_id t = is_text t

-- V8: a text `id` differs from the text `id` of every earlier layer
abbrev pub is_unused : (List ℕ → Bool) → Option (List ℕ) → Bool
is_unused used (Some id) = not (used id)
is_unused used None = true

abbrev pub is_new_id : (List ℕ → Bool) → Tree → Bool
is_new_id used t = is_unused used (text_in t)

-- V9: `type` is there and is one of the ten, and `ref` is not there
abbrev pub has_type : Tree → Bool
has_type layer = has (codes "type") layer && not (has (codes "ref") layer)

abbrev pub is_type : Tree → Bool
is_type t = is_some (type_in t)

-- V10: a layer other than background has a `source`, a text that names a member of `sources`
abbrev pub has_source : LayerContext → Tree → Bool
has_source context layer = not (is_some context.sources) || has (codes "source") layer

abbrev pub is_named_among : Option Fields → Option (List ℕ) → Bool
is_named_among None name = true
is_named_among (Some sources) (Some name) = is_some (field_at name sources)
is_named_among (Some sources) None = false

abbrev pub is_source_name : LayerContext → Tree → Bool
is_source_name context t = is_named_among context.sources (text_in t)

-- V11: a raster layer's source is of type raster, image or video; a hillshade or color-relief layer's is
-- raster-dem; every other's is vector or geojson
abbrev pub sources_of_type : LayerType → List (List ℕ)
sources_of_type Raster = codes "raster" ∷ codes "image" ∷ codes "video" ∷ []
sources_of_type Hillshade = codes "raster-dem" ∷ []
sources_of_type ColorRelief = codes "raster-dem" ∷ []
sources_of_type _ = codes "vector" ∷ codes "geojson" ∷ []

abbrev pub suits : Option LayerType → Option (List ℕ) → Bool
suits (Some type) (Some source) = is_among (sources_of_type type) (Some source)
suits _ _ = true

abbrev pub has_such_source : LayerContext → Bool
has_such_source context = suits context.type context.source_type

-- V12: a layer other than background on a vector source has a `source-layer`, a text
abbrev pub is_on_vector : LayerContext → Bool
is_on_vector context = is_among (codes "vector" ∷ []) context.source_type

abbrev pub has_source_layer : LayerContext → Tree → Bool
has_source_layer context layer = not (is_on_vector context) || has (codes "source-layer") layer

abbrev pub is_source_layer : LayerContext → Tree → Bool
is_source_layer context t = not (is_on_vector context) || is_text t

-- V13: `minzoom` and `maxzoom` are numbers from 0 to 24
abbrev pub is_zoom_limit : Tree → Bool
is_zoom_limit t = is_zoom (number_in t)

-- V14: `layout` and `paint` are objects
abbrev pub are_properties : Tree → Bool
are_properties t = is_object t

-- V21: the value of a transition is an object
abbrev pub is_transition : Tree → Bool
is_transition t = is_object t

-- V22: `state` is an object, and each member of it is one with a `default` in which every number is within
-- the bound
abbrev pub are_globals : Tree → Bool
are_globals t = is_object t

abbrev pub is_read : Result Data NumFault → Bool
is_read (Ok d) = true
is_read (Err past) = false

abbrev pub is_default : Option Tree → Bool
is_default (Some t) = is_read (json_data t)
is_default None = false

abbrev pub is_global : Tree → Bool
is_global t = is_default (member (codes "default") t)
