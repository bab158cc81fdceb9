use Rattle.std.proofs.Common.{◌≡◌, drop}
use Rattle.legacy_filters.specs.AskedParts.{some_asks_feature}
use Rattle.legacy_filters.specs.View.{part_filters}
use Rattle.legacy_filters.proofs.asked_parts.+asking.Given as goal

abbrev pub invariant-some_asks_feature-loop-part : goal.invariant-some_asks_feature-loop-part
invariant-some_asks_feature-loop-part l = some_asks_feature (part_filters (drop l.part-index l.parts)) ≡ some_asks_feature (part_filters l.parts)
