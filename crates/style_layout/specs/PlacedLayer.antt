-- What a layer whose `layout` and `paint` were looked up holds.
use Rattle.std.specs.Prelude.{◌≡◌, ℕ, List, codes, Option}
use Rattle.decimal_json.specs.Accessors.{member}
use Rattle.decimal_json.specs.Tree.{Tree, object, fields_of}

pub record IsPlaced (members : List (List ℕ × Tree)) (found_layout found_paint : Option Tree) : Type 0 where
  pub layout : found_layout ≡ member (codes "layout") (object (fields_of members))
  pub paint : found_paint ≡ member (codes "paint") (object (fields_of members))
