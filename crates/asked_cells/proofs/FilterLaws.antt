-- A filter that is evaluated is no constant.
use Rattle.std.proofs.Common.{◌≡◌, refl, false}
use Rattle.prop_values.specs.Data as values
use Rattle.expr_syntax.specs.Term.{literal, node}
use Rattle.style_layout.specs.Forms.{LayerFilter, condition, every, legacy_filter, outside_filter}
use Rattle.style_layout.specs.Outlines.{evaluated_filter}
use Rattle.asked_cells.specs.Asked.{constant_answer}

pub evaluated_answer : (f : LayerFilter) → constant_answer (evaluated_filter f) ≡ false
evaluated_answer every = refl
evaluated_answer (condition (literal values.null)) = refl
evaluated_answer (condition (literal (values.boolean b))) = refl
evaluated_answer (condition (literal (values.number n))) = refl
evaluated_answer (condition (literal (values.text s))) = refl
evaluated_answer (condition (literal (values.color c))) = refl
evaluated_answer (condition (literal (values.list xs))) = refl
evaluated_answer (condition (literal (values.map ps))) = refl
evaluated_answer (condition (node operator ts)) = refl
evaluated_answer (legacy_filter f) = refl
evaluated_answer outside_filter = refl
