use Rattle.std.proofs.Common.{◌≡◌, drop}
use Rattle.std.specs.List.{list_all, list_any}
use Rattle.legacy_filters.specs.Meaning.{each_passes}
use Rattle.legacy_filters.specs.View.{part_filters}
use Rattle.legacy_filters.proofs.meaning.+passing.Given as goal

abbrev pub invariant-all_pass-loop-part : goal.invariant-all_pass-loop-part
invariant-all_pass-loop-part l = list_all (λ b. b) (each_passes (part_filters (drop l.part-index l.parts)) l.feature) ≡ list_all (λ b. b) (each_passes (part_filters l.parts) l.feature)

abbrev pub invariant-any_passes-loop-part : goal.invariant-any_passes-loop-part
invariant-any_passes-loop-part l = list_any (λ b. b) (each_passes (part_filters (drop l.part-index l.parts)) l.feature) ≡ list_any (λ b. b) (each_passes (part_filters l.parts) l.feature)
