use Rattle.std.proofs.Common.{◌≡◌, ◌+◌, ◌∷◌, subst, drop, rules}
use Rattle.std.specs.Prelude.{None}
use Rattle.expr_syntax.specs.LabelIndex.{output_at}
use Rattle.expr_syntax.proofs.LabelIndexLaws.{RepeatsWith, IsIndexWith, repeats_more, index_more, next_label, not_some}
use Rattle.expr_syntax.proofs.label_index.index_of.Goals as goal

pub loop-labelled-preserved : goal.loop-labelled-preserved
loop-labelled-preserved c =
    let labels = c.args.labels.now in
    let old = c.loop-labelled.index in
    let new = c.note_label.new.index in
    let l = c.labelled-item.result in
    let later = drop (c.loop-labelled.labelled-index + 1) labels in
    let next : drop c.loop-labelled.labelled-index labels ≡ l ∷ later = next_label labels c.loop-labelled.labelled-index l (search rules) (search rules) in
    let none : output_at old l.label ≡ None = not_some (output_at old l.label) (search rules) in (
      repeats_more new old l later labels c.in_ok-note_label.ensures none (subst (λ ls. RepeatsWith old ls labels) next c.loop-labelled.invariant.0),
      index_more new old l later labels c.in_ok-note_label.ensures none (subst (λ ls. IsIndexWith old ls labels) next c.loop-labelled.invariant.1),
    )
