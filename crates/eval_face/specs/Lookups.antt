-- Operators that look something up: in the feature, in its state, or in an object. Source: MapLibre style
-- specification, version 8, expressions.
use Rattle.std.specs.Prelude.{ℕ, ◌*◌, pos, List, [], ◌∷◌, Bool, Option, Some, None, is_some, unwrap_or, Ok, Err}
use Rattle.std.specs.Prelude.{if◌then◌else◌}
use Rattle.prop_values.specs.Data.{Data, null, boolean, number, text, map, Pairs, pairs_of}
use Rattle.prop_values.specs.Equality.{at_key}
use Rattle.prop_values.specs.declared.fault.EvalFault.TheVariants.{WrongType}
use Rattle.operator_values.specs.Evaluated.{Evaluated}

-- what is at a key, and null where there is nothing
abbrev pub entry_at : List ℕ → Pairs → Data
entry_at key entries = unwrap_or (at_key key entries) null

-- `get`: of the properties, or of the object that is handed in
abbrev pub get_of : List (List ℕ × Data) → List Data → Evaluated
get_of properties (text key ∷ []) = Ok (entry_at key (pairs_of properties))
get_of properties (text key ∷ map entries ∷ []) = Ok (entry_at key entries)
get_of properties _ = Err WrongType

-- `has`
abbrev pub has_of : List (List ℕ × Data) → List Data → Evaluated
has_of properties (text key ∷ []) = Ok (boolean (is_some (at_key key (pairs_of properties))))
has_of properties (text key ∷ map entries ∷ []) = Ok (boolean (is_some (at_key key entries)))
has_of properties _ = Err WrongType

-- `feature-state`
abbrev pub state_at : List (List ℕ × Data) → List Data → Evaluated
state_at state (text key ∷ []) = Ok (entry_at key (pairs_of state))
state_at state _ = Err WrongType

-- `id`: null where there is none
abbrev pub id_value : Option ℕ → Data
id_value (Some id) = number (pos (id * 1000000))
id_value None = null

-- `image`: the name itself, or null where the test says no
abbrev pub image_of : (List ℕ → Bool) → List Data → Evaluated
image_of is_image (text name ∷ []) = Ok (if is_image name then text name else null)
image_of is_image _ = Err WrongType

-- `is-supported-script`
abbrev pub script_of : (List ℕ → Bool) → List Data → Evaluated
script_of is_supported (text s ∷ []) = Ok (boolean (is_supported s))
script_of is_supported _ = Err WrongType
