-- Labels of `match`, in a list.
use Rattle.std.specs.Prelude.{List, [], ◌∷◌, Bool, true, false, not, ◌||◌}
use Rattle.std.specs.Str.{bytes_eq}
use Rattle.std.specs.Ordering.{int_eq}
use Rattle.expr_syntax.specs.declared.parts.Label.{Label}
use Rattle.expr_syntax.specs.declared.parts.Label.TheVariants.{Text, Number}
use Rattle.expr_syntax.specs.declared.parts.Labelled.{Labelled}

abbrev pub is_number_label : Label → Bool
is_number_label (Number z) = true
is_number_label (Text s) = false

abbrev pub is_number : Labelled → Bool
is_number l = is_number_label l.label

abbrev pub is_text : Labelled → Bool
is_text l = not (is_number_label l.label)

abbrev pub same_label : Label → Label → Bool
same_label (Text s) (Text t) = bytes_eq s t
same_label (Number y) (Number z) = int_eq y z
same_label _ _ = false

-- whether one of some labels occurs twice, or is one of those before them
abbrev pub repeats : (Label → Bool) → List Labelled → Bool
repeats is_before [] = false
repeats is_before (l ∷ ls) = is_before l.label || repeats (λ m. same_label l.label m || is_before m) ls
