use Rattle.std.proofs.Common.{◌≡◌, ◌++◌, length}
use Rattle.std.specs.Prelude.{Ok}
use Rattle.tile_reader.specs.Read.{◌then◌}
use Rattle.tile_reader.specs.Feature.{packed, placed}
use Rattle.tile_reader.proofs.feature.add_packed.Given as goal

abbrev pub invariant-loop-rest : goal.invariant-loop-rest
invariant-loop-rest l =
    (placed l.fn.at (packed l.rest) then λ more. Ok (l.tags.items ++ more)) ≡ (placed l.fn.at (packed l.fn.content) then λ more. Ok (l.fn.tags.items ++ more))

abbrev pub decreases-loop-rest : goal.decreases-loop-rest
decreases-loop-rest l = length l.rest
