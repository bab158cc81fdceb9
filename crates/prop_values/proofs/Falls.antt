-- For callers: each child is smaller than its parent, which ends a recursion over a value.
use Rattle.std.specs.Prelude.{◌≡◌, ℕ, ◌≤◌, ◌<◌, List, [], ◌∷◌, length}
use Rattle.std.proofs.Common.{arith, ap, get_or, zero, suc}
use denote.Param.Weighed.{at_most}
use Rattle.prop_values.specs.declared.value.Value.{Value}
use Rattle.prop_values.specs.declared.value.Entry.{Entry}
use Rattle.prop_values.specs.declared.value.Entries.TheDeep.{deep-Value, deep-Entry}
use Rattle.prop_values.specs.Data.{Data}
use Rattle.prop_values.specs.DataSize.{nodes, items_nodes, pairs_nodes}
use Rattle.prop_values.specs.Falls.{values_fall, entries_fall}
use Rattle.prop_values.specs.View.{data_of}
use Rattle.prop_values.specs.ViewParts.{values_view, entries_view, values_size, entries_size, items, pairs}

-- A value of `as_slice` of `Values` is smaller than the values.
pub value_falls : (vs : List Value) (ds : List Data) (i : ℕ) (v : Value) → values_view vs ≡ ds → i < length vs → v ≡ get_or vs i v → deep-Value v ≤ values_size ds
value_falls vs ds i v e h p = let a = at_most deep-Value vs i v h in let b = values_fall vs in let q = ap deep-Value p in let r = ap values_size e in omega arith

-- A value of `as_slice` of `Entries` is smaller than the entries.
pub entry_falls : (es : List Entry) (ps : List (List ℕ × Data)) (i : ℕ) (x : Entry) → entries_view es ≡ ps → i < length es → x ≡ get_or es i x → deep-Value x.value ≤ entries_size ps
entry_falls es ps i x e h p = let a = at_most deep-Entry es i x h in let b = entries_fall es in let q = ap deep-Entry p in let r = ap entries_size e in omega arith

-- For a measure by nodes: a value has no more nodes than the values.
pub value_weight : (vs : List Value) (i : ℕ) (v : Value) → v ≡ get_or vs i v → i < length vs → nodes (data_of v) ≤ items_nodes (items vs)
value_weight [] i v p h = absurd (omega arith)
value_weight (x ∷ vs) zero v p h = let q = ap (λ y. nodes (data_of y)) p in omega arith
value_weight (x ∷ vs) (suc i) v p h = let r = value_weight vs i v p (omega arith) in omega arith

-- and no more than the entries
pub entry_weight : (es : List Entry) (i : ℕ) (e : Entry) → e ≡ get_or es i e → i < length es → nodes (data_of e.value) ≤ pairs_nodes (pairs es)
entry_weight [] i e p h = absurd (omega arith)
entry_weight (x ∷ es) zero e p h = let q = ap (λ (y : Entry). nodes (data_of y.value)) p in omega arith
entry_weight (x ∷ es) (suc i) e p h = let r = entry_weight es i e p (omega arith) in omega arith
