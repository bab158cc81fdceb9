use Rattle.std.proofs.Common.{◌∙◌, ap, true}
use Rattle.std.proofs.lemmas.Int.{to_z-of_z}
use Rattle.std.specs.Prelude.{cond}
use Rattle.std.specs.Ordering.{int_cmp, int_eq}
use Rattle.std.specs.BTreeSet.{contains}
use mir.Syntax.{w128}
use Rattle.item_index.proofs.IndexLaws.{cond_or}
use Rattle.item_index.proofs.index.note_number.Goals as goal

pub returns : goal.returns
returns c = λ z.
    let others = contains int_cmp c.args.numbers.now z in
    c.in_ok-insert.ensures.updates.0 z ∙
    ap (λ y. cond (int_eq y z) true others) (to_z-of_z w128 c.args.number c.ranges.number) ∙
    cond_or (int_eq c.args.number z) others
