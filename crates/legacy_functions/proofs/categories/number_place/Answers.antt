use Rattle.std.proofs.Common.{◌∙◌, ap, rules}
use Rattle.std.proofs.lemmas.Int.{to_z-of_z}
use Rattle.std.specs.BTreeMap.{get}
use Rattle.std.specs.Ordering.{int_cmp}
use mir.Syntax.{w128}
use mir.Val.{SFits}
use Rattle.legacy_functions.proofs.categories.number_place.Goals as goal

pub returns : goal.returns
returns c =
    let numbers = c.args.numbers.now in
    let fits : SFits w128 c.millionths.result = search rules in
    c.copied.ensures ∙
    (c.get.ensures.value ∙
    (ap (λ y. get int_cmp numbers y) (to_z-of_z w128 c.millionths.result fits) ∙
    ap (λ y. get int_cmp numbers y) c.millionths.ensures.value))
