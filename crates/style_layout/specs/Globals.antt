-- The values of the global state that a document gives: the defaults of `state`. Source: own.
use Rattle.std.specs.Prelude.{ℕ, List, [], codes, Option, Some, None, Result, Ok, Err}
use Rattle.std.specs.Option.{option_and_then}
use Rattle.decimal_json.specs.Accessors.{member, fields_in}
use Rattle.fixed_num.specs.declared.decimal.NumFault.{NumFault}
use Rattle.decimal_json.specs.Tree.{Tree, Fields, no_fields, field}
use Rattle.prop_values.specs.Changes.{with_member}
use Rattle.prop_values.specs.Data.{Data}
use Rattle.prop_values.specs.JsonData.{json_data}

-- a default with a number past the bound is none
abbrev pub data_read : Result Data NumFault → Option Data
data_read (Ok d) = Some d
data_read (Err past) = None

abbrev pub default_in : Tree → Option Data
default_in t = option_and_then (λ d. data_read (json_data d)) (member (codes "default") t)

abbrev pub with_default : List ℕ → Option Data → List (List ℕ × Data) → List (List ℕ × Data)
with_default name (Some d) globals = with_member name d globals
with_default name None globals = globals

-- each name of the fields gets its default
abbrev pub with_defaults : List (List ℕ × Data) → Fields → List (List ℕ × Data)
with_defaults globals no_fields = globals
with_defaults globals (field name t fs) = with_defaults (with_default name (default_in t) globals) fs

abbrev pub defaults_of : Option Fields → List (List ℕ × Data)
defaults_of (Some fs) = with_defaults [] fs
defaults_of None = []

-- The values of the global state before anything is set.
abbrev pub globals_of : Tree → List (List ℕ × Data)
globals_of document = defaults_of (option_and_then fields_in (member (codes "state") document))
