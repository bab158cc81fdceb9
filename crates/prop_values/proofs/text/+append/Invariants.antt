use Rattle.std.proofs.Common.{◌≡◌, ◌++◌, ◌∷◌, [], drop}
use Rattle.std.specs.Prelude.{string_bytes}
use Rattle.prop_values.specs.Data.{list, map, items_of, pairs_of}
use Rattle.prop_values.specs.ValueText.{data_json, items_json, pairs_json}
use Rattle.prop_values.specs.ViewParts.{items, pairs}
use Rattle.prop_values.proofs.text.+append.Given as goal

abbrev pub invariant-append_values-loop-value : goal.invariant-append_values-loop-value
invariant-append_values-loop-value l = string_bytes l.out ++ (items_json l.later (items (drop l.value-index l.value-items)) ++ 93 ∷ []) ≡ string_bytes l.fn.out ++ data_json (list (items_of l.values))

abbrev pub invariant-append_entries-loop-entry : goal.invariant-append_entries-loop-entry
invariant-append_entries-loop-entry l = string_bytes l.out ++ (pairs_json l.later (pairs (drop l.entry-index l.entry-items)) ++ 125 ∷ []) ≡ string_bytes l.fn.out ++ data_json (map (pairs_of l.entries))
