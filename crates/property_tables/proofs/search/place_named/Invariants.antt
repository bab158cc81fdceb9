use Rattle.std.proofs.Common.{◌≡◌, ℕ, ◌-◌, ◌<◌, ◌≤◌, length}
use Rattle.property_tables.specs.NameIndex.{name_at}
use Rattle.property_tables.specs.RowView.{names_of}
use Rattle.property_tables.proofs.NameIndexes.{placed}
use Rattle.property_tables.proofs.search.place_named.Given as goal

abbrev pub invariant-loop-low : goal.invariant-loop-low
invariant-loop-low l = record {
  order : l.low ≤ l.high;
  within : l.high ≤ length l.order;
  before : (k : ℕ) → k < l.low → name_at (names_of l.entries) (placed l.order k) ≡ l.name → ⊥;
  behind : (k : ℕ) → k < length l.order → l.high ≤ k → name_at (names_of l.entries) (placed l.order k) ≡ l.name → ⊥;
}

abbrev pub decreases-loop-low : goal.decreases-loop-low
decreases-loop-low l = l.high - l.low
