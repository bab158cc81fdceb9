use Rattle.std.proofs.Common.{drop}
use Rattle.std.specs.Prelude.{map}
use Rattle.legacy_functions.specs.Parts.{category_seen}
use Rattle.legacy_functions.proofs.CategoryLaws.{IsIndexWith, DiffersWith}
use Rattle.legacy_functions.proofs.categories.index_of.Given as goal

abbrev pub invariant-loop-i : goal.invariant-loop-i
invariant-loop-i l =
    DiffersWith l.index (map category_seen (drop l.i l.stops)) (map category_seen l.stops)
    × IsIndexWith l.index l.i (map category_seen (drop l.i l.stops)) (map category_seen l.stops)
