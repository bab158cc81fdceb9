-- The path of a place of a layer, by what a late path keeps of it.
use Rattle.std.specs.Prelude.{ℕ, List, [], ◌∷◌, codes}
use Rattle.decimal_json.specs.declared.paths.PathPart.{PathPart}
use Rattle.decimal_json.specs.declared.paths.PathPart.TheVariants.{Key, Index}
use Rattle.property_tables.specs.declared.property_row.Place.{Place}
use Rattle.property_tables.specs.declared.property_row.Place.TheVariants.{Layout, Paint}
use Rattle.style_rules.specs.declared.late_path.LatePlace.{LatePlace}
use Rattle.style_rules.specs.declared.late_path.LatePlace.TheVariants.{Made, Filter, Property}

abbrev pub place_name : Place → List ℕ
place_name Layout = codes "layout"
place_name Paint = codes "paint"

-- the `layout` or `paint` of the layer of a number
abbrev pub properties_path : ℕ → Place → List PathPart
properties_path layer place = Key (codes "layers") ∷ Index layer ∷ Key (place_name place) ∷ []

abbrev pub filter_path : ℕ → List PathPart
filter_path layer = Key (codes "layers") ∷ Index layer ∷ Key (codes "filter") ∷ []

abbrev pub property_path : ℕ → Place → List ℕ → List PathPart
property_path layer place name = Key (codes "layers") ∷ Index layer ∷ Key (place_name place) ∷ Key name ∷ []

abbrev pub late_path : LatePlace → List PathPart
late_path (Made path) = path
late_path (Filter layer) = filter_path layer
late_path (Property layer place name) = property_path layer place name
