-- The parts of values, and how many nodes they have.
use Rattle.std.specs.Prelude.{ℕ, ◌+◌, List, [], map, Result, Ok, Err, Option, Some, None, Vec}
use Rattle.std.specs.declared.rc.Rc.{Rc}
use Rattle.std.specs.declared.alloc.Global.{Global}
use Rattle.prop_values.specs.Data.{Data, Items, Pairs, items_of, pairs_of}
use Rattle.prop_values.specs.DataSize.{items_nodes, pairs_nodes}
use Rattle.prop_values.specs.declared.value.Value.{Value}
use Rattle.prop_values.specs.declared.value.Entry.{Entry}
use Rattle.prop_values.specs.declared.fault.EvalFault.{EvalFault}
use Rattle.prop_values.specs.View.{data_of}

-- the items that a list has in common with others
abbrev pub kept : Option (Rc (Vec Value Global) Global) → List Value
kept None = []
kept (Some values) = values.value.items

abbrev pub values_view : List Value → List Data
values_view = map data_of

abbrev pub entry_view : Entry → List ℕ × Data
entry_view e = (e.key, data_of e.value)

abbrev pub entries_view : List Entry → List (List ℕ × Data)
entries_view = map entry_view

-- the keys of entries
abbrev pub entry_keys : List Entry → List (List ℕ)
entry_keys = map (λ (e : Entry). e.key)

-- the items of a slice of values, and the pairs of a slice of entries, as the parts of data
abbrev pub items : List Value → Items
items vs = items_of (values_view vs)

abbrev pub pairs : List Entry → Pairs
pairs es = pairs_of (entries_view es)

abbrev pub values_size : List Data → ℕ
values_size ds = items_nodes (items_of ds)

abbrev pub entries_size : List (List ℕ × Data) → ℕ
entries_size ps = pairs_nodes (pairs_of ps)

-- shared entries count one more
abbrev pub shared_size : List (List ℕ × Data) → ℕ
shared_size ps = 1 + entries_size ps

-- For callers: the data that an evaluation gave, or its fault.
abbrev pub evaluated_of : Result Value EvalFault → Result Data EvalFault
evaluated_of (Ok v) = Ok (data_of v)
evaluated_of (Err fault) = Err fault
