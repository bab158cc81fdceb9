use Rattle.std.proofs.Common.{◌∙◌, ap, rules}
use Rattle.std.proofs.lemmas.Int.{to_z-of_z}
use Rattle.std.specs.Ordering.{int_cmp}
use Rattle.std.specs.BTreeSet.{contains}
use mir.Syntax.{w128}
use mir.Val.{SFits}
use Rattle.item_index.proofs.index.has_number.Goals as goal

pub returns : goal.returns
returns c =
    let numbers = c.args.numbers.now in
    let fits : SFits w128 c.millionths.result = search rules in
    c.contains.ensures ∙
    ap (λ y. contains int_cmp numbers y) (to_z-of_z w128 c.millionths.result fits) ∙
    ap (λ y. contains int_cmp numbers y) c.millionths.ensures.value
