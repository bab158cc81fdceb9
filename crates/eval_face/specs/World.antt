-- What expressions read of the world.
use Rattle.std.specs.Prelude.{ℕ, ℤ, List, [], Bool, Option, Some, None}
use Rattle.std.specs.Borrow.{Bor}
use Rattle.prop_values.specs.Data.{Data}
use Rattle.tile_reader.specs.declared.tile.Feature.{Feature}
use Rattle.tile_reader.specs.declared.tile.Shape.{Shape}
use Rattle.tile_reader.specs.declared.tile.Shape.TheVariants.{Unknown}
use Rattle.eval_face.specs.declared.context.Context.{Context}

pub record World : Type 0 where
  -- in millionths
  pub zoom : ℤ
  pub shape : Shape
  pub id : Option ℕ
  -- the properties of the feature, and the members of its state
  pub properties : List (List ℕ × Data)
  pub state : List (List ℕ × Data)
  -- the tests on texts
  pub has_image : List ℕ → Bool
  pub is_supported : List ℕ → Bool

-- a feature without anything
abbrev pub no_feature : Feature
no_feature = record { id = None; shape = Unknown; properties = [] }

abbrev pub feature_of : Option (Bor Feature) → Feature
feature_of (Some f) = f.now
feature_of None = no_feature

-- without a state: an empty one
abbrev pub state_of : Option (Bor (List (List ℕ × Data))) → List (List ℕ × Data)
state_of (Some s) = s.now
state_of None = []

-- the world of a feature and its state
abbrev pub feature_world : ℤ → Feature → List (List ℕ × Data) → (List ℕ → Bool) → (List ℕ → Bool) → World
feature_world zoom feature state images scripts = record {
  zoom = zoom;
  shape = feature.shape;
  id = feature.id;
  properties = feature.properties;
  state = state;
  has_image = images;
  is_supported = scripts;
}

-- The world of a context and two tests.
abbrev pub world_of : Context → (List ℕ → Bool) → (List ℕ → Bool) → World
world_of c images scripts = feature_world c.zoom (feature_of c.feature) (state_of c.state) images scripts
