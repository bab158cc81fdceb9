-- A layer after an edit of one of its parts.
use Rattle.std.specs.Prelude.{ℕ, ℤ, List, codes, Bool, true, false, Option, Some, None, unwrap_or, if◌then◌else◌}
use Rattle.fixed_num.specs.NumberText.{number_text}
use Rattle.decimal_json.specs.Accessors.{member}
use Rattle.decimal_json.specs.Tree.{Tree, null, number}
use Rattle.style_edits.specs.Objects.{object_with, object_replacing, object_without}

abbrev pub is_null : Tree → Bool
is_null null = true
is_null _ = false

-- ---- a property, among those at a key, which is `paint` or `layout`

-- the properties at a key; null where there are none
abbrev pub properties_at : List ℕ → Tree → Tree
properties_at key layer = unwrap_or (member key layer) null

-- A value is put among the properties: in place of the one that is there, or last. The object of the properties is
-- made where it is missing, and in place of what is no object. Null takes the property away. Source: own.
abbrev pub with_property : List ℕ → List ℕ → Tree → Tree → Tree
with_property key name value layer =
    if is_null value
    then object_replacing key (object_without name (properties_at key layer)) layer
    else object_with key (object_with name value (properties_at key layer)) layer

-- ---- the filter

-- A filter is put in place, or last; null takes it away. Source: own.
abbrev pub with_filter : Tree → Tree → Tree
with_filter filter layer =
    if is_null filter then object_without (codes "filter") layer else object_with (codes "filter") filter layer

-- ---- the range of zooms

abbrev pub with_limit : List ℕ → Option ℤ → Tree → Tree
with_limit key (Some zoom) layer = object_with key (number (number_text zoom)) layer
with_limit key None layer = layer

abbrev pub without_limits : Tree → Tree
without_limits layer = object_without (codes "maxzoom") (object_without (codes "minzoom") layer)

-- Both limits are taken away, and then those that are given are put last, `minzoom` first. Source: own.
abbrev pub with_range : Option ℤ → Option ℤ → Tree → Tree
with_range min max layer = with_limit (codes "maxzoom") max (with_limit (codes "minzoom") min (without_limits layer))
