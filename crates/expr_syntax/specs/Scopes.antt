-- The names around an expression.
use Rattle.std.specs.Prelude.{ℕ, List, Bool, false, ◌||◌, Option}
use Rattle.prop_values.specs.Data.{Data, pairs_of}
use Rattle.prop_values.specs.Equality.{at_key}
use Rattle.expr_syntax.specs.BoundNames.{is_among}

-- The values of the global state, and inside of them the names of each `let`, the innermost first.
pub data Scope : Type 0 where
  globals : List (List ℕ × Data) → Scope
  frame : List (List ℕ) → Scope → Scope

-- whether a `let` binds a name
abbrev pub is_known : Scope → List ℕ → Bool
is_known (globals values) name = false
is_known (frame names outer) name = is_among names name || is_known outer name

-- the value of a name of the global state
abbrev pub global_at : Scope → List ℕ → Option Data
global_at (globals values) name = at_key name (pairs_of values)
global_at (frame names outer) name = global_at outer name
