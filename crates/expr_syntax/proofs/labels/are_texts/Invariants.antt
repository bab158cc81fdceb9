use Rattle.std.proofs.Common.{◌≡◌, drop}
use Rattle.std.specs.List.{list_all}
use Rattle.expr_syntax.specs.LabelLists.{is_text}
use Rattle.expr_syntax.proofs.labels.are_texts.Given as goal

abbrev pub invariant-loop-label : goal.invariant-loop-label
invariant-loop-label l = list_all is_text (drop l.label-index l.labels) ≡ list_all is_text l.labels
