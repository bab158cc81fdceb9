-- A `let` without the bindings that its body does not ask for; of a repeated name the last is asked for. Source: own.
use Rattle.std.specs.Prelude.{ℕ, ◌+◌, ◌-◌, ◌/◌, nat_eq, List, [], ◌∷◌, map, slice_set, Bool, true, false, ◌&&◌, ◌||◌}
use Rattle.std.specs.Prelude.{Option, Some, None, if◌then◌else◌}
use Rattle.std.specs.List.{slice_get}
use Rattle.prop_values.specs.declared.kinds.Want.{Want}
use Rattle.expr_syntax.specs.NameIndex.{last_place}
use Rattle.style_simplify.specs.SimpleElements.{SimpleElement, let_of}

-- a mark for each binding, of one that is asked for true
abbrev pub marked : Option ℕ → List Bool → List Bool
marked (Some place) marks = slice_set marks place true
marked None marks = marks

abbrev pub marks_after : List Bool → List (List ℕ) → List (List ℕ) → List Bool
marks_after marks names [] = marks
marks_after marks names (asked ∷ others) = marks_after (marked (last_place 0 names asked) marks) names others

abbrev pub unmarked : List (List ℕ) → List Bool
unmarked names = map (λ name. false) names

abbrev pub asked_marks : List (List ℕ) → List (List ℕ) → List Bool
asked_marks names asks = marks_after (unmarked names) names asks

abbrev pub all_marked : List Bool → Bool
all_marked [] = true
all_marked (m ∷ ms) = m && all_marked ms

abbrev pub some_marked : List Bool → Bool
some_marked [] = false
some_marked (m ∷ ms) = m || some_marked ms

abbrev pub mark_or_not : Option Bool → Bool
mark_or_not (Some m) = m
mark_or_not None = false

-- Elements 1 and 2 are the name and the expression of binding 0, and so on; the name of the `let` is at 0.
abbrev pub is_asked_at : List Bool → ℕ → Bool
is_asked_at marks i = nat_eq i 0 || mark_or_not (slice_get marks ((i - 1) / 2))

abbrev pub asked_elements : List Bool → ℕ → List SimpleElement → List SimpleElement
asked_elements marks i [] = []
asked_elements marks i (e ∷ es) =
    if is_asked_at marks i then e ∷ asked_elements marks (i + 1) es else asked_elements marks (i + 1) es

abbrev pub shorter_by_marks : List Bool → List (List ℕ) → Want → List SimpleElement → SimpleElement →
    Option SimpleElement
shorter_by_marks marks names want bindings body =
    if all_marked marks then None
    else if some_marked marks then Some (let_of names want (asked_elements marks 0 bindings) body)
    else Some body

-- the elements before the body, and the body
abbrev pub shorter_let : List (List ℕ) → Want → List SimpleElement → SimpleElement → Option SimpleElement
shorter_let names want bindings body = shorter_by_marks (asked_marks names body.asks) names want bindings body
