use Rattle.std.proofs.Common.{drop}
use Rattle.expr_syntax.proofs.LabelIndexLaws.{IsIndexWith, RepeatsWith}
use Rattle.expr_syntax.proofs.label_index.index_of.Given as goal

abbrev pub invariant-loop-labelled : goal.invariant-loop-labelled
invariant-loop-labelled l = RepeatsWith l.index (drop l.labelled-index l.labels) l.labels × IsIndexWith l.index (drop l.labelled-index l.labels) l.labels
