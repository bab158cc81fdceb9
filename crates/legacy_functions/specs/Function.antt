-- What a legacy function is to a clause. Source: own.
use Rattle.std.specs.Prelude.{ℕ, ℤ, List, Bool, true, false, ◌||◌, Option, is_none}
use Rattle.decimal_json.specs.Tree.{Tree}
use Rattle.prop_values.specs.Data.{Data}

-- a number as it is spelled, and the number that it says, in millionths
pub record Spelled : Type 0 where
  pub spelled : List ℕ
  pub value : ℤ

-- the input of a stop of categories
pub data Input : Type 0 where
  flag : Bool → Input
  number : Spelled → Input
  word : List ℕ → Input

-- the output of a stop, or a default: a literal as it is, with its value; or a token text
pub data Output : Type 0 where
  literal : Tree → Data → Output
  tokens : List ℕ → Output

-- how a function goes from stop to stop: evenly; by powers of a base that is above 0 and is not 1; or not at
-- all until the next
pub data Way : Type 0 where
  even : Way
  curved : Spelled → Way
  stepped : Way

-- stops over a number, at least one, each input below the next; or categories, of which no two are equal
pub data PropertyRule : Type 0 where
  numeric : Way → List (Spelled × Output) → PropertyRule
  categorical : List (Input × Output) → PropertyRule

-- one rule; a rule for each of some zooms, at least one, each below the next; or the property itself
pub data Body : Type 0 where
  plain : PropertyRule → Body
  zoomed : List (Spelled × PropertyRule) → Body
  identity : Body

pub record Function : Type 0 where
  pub property : Option (List ℕ)
  pub fallback : Option Output
  pub body : Body

-- The stops of a function are over the zoom where it has no property, or where each is a rule for a zoom.
abbrev pub has_zoomed_stops : Body → Bool
has_zoomed_stops (plain rule) = false
has_zoomed_stops (zoomed rules) = true
has_zoomed_stops identity = false

abbrev pub has_zooms : Function → Bool
has_zooms f = is_none f.property || has_zoomed_stops f.body
