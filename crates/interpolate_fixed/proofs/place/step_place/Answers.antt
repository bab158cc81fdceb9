use Rattle.std.proofs.Common.{rules}
use Rattle.std.specs.Prelude.{int_le}
use Rattle.std.proofs.lemmas.Fn.{always_returns_same}
use Rattle.interpolate_fixed.proofs.Counts.{counted, partitioned}
use Rattle.interpolate_fixed.proofs.place.step_place.Goals as goal

pub returns : goal.returns
returns c =
    let computes = always_returns_same _ _ _ (λ a r f called. search rules) in
    counted c.args.inputs.now c.args.value c.partition_point.result c.partition_point.ensures.bound
    (c.partition_point.ensures.partitioned (λ z. int_le z c.args.value) computes (partitioned c.args.inputs.now c.args.value c.requires.ascending))
