-- What a style shows at a zoom.
use Rattle.std.specs.Prelude.{ℕ, ℤ, List, Option}
use Rattle.prop_values.specs.declared.outcome.Outcome.{Outcome}
use Rattle.property_tables.specs.declared.layer_type.LayerType.{LayerType}
use Rattle.tile_reader.specs.declared.tile.Shape.{Shape}
use Rattle.listing_text.specs.declared.show.Show.{Show}

-- what a property is listed as
pub record ListedValue : Type 0 where
  pub name : List ℕ
  pub outcome : Outcome

-- a feature that passes the filter of its layer
pub record FeatureOut : Type 0 where
  -- its place in the list of the features of its layer, from 0
  pub number : ℕ
  pub id : Option ℕ
  pub shape : Shape
  -- the properties that are listed with it, in the order of the table
  pub values : List ListedValue

pub record LayerOut : Type 0 where
  pub id : List ℕ
  pub layer_type : LayerType
  pub show : Show
  -- the properties that are listed with the layer, in the order of the table
  pub values : List ListedValue
  -- in the order in which they are drawn
  pub features : List FeatureOut

pub record Layout : Type 0 where
  -- in millionths
  pub zoom : ℤ
  -- in the order of the style
  pub layers : List LayerOut
