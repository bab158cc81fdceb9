use Rattle.std.proofs.Common.{◌≡◌, ◌∙◌, ◌<◌, ◌-◌, List, length, get_or, Some, None, ap, sym, subst, arith, rules}
use Rattle.std.specs.Prelude.{map}
use Rattle.prop_values.specs.View.{data_of}
use Rattle.legacy_functions.specs.declared.function.Category.{Category}
use Rattle.legacy_functions.specs.Meaning.{chosen_output}
use Rattle.legacy_functions.specs.Parts.{output_seen, category_seen}
use Rattle.legacy_functions.proofs.CategoryLaws.{FindsFirst, finds_first}
use Rattle.legacy_functions.proofs.categories.Categories.output_of.Goals as goal

pub bounds-stops-place : goal.bounds-stops-place
bounds-stops-place c =
    let stops = c.self.inside.stops.items in
    let d = data_of c.args.value.now in
    let first : FindsFirst stops d 0 (Some c.in-Some.place) = subst (FindsFirst stops d 0) (sym c.in-Some.ensures) (finds_first c.self.inside.index stops d c.self.invariant) in
    subst (λ (xs : List Category). c.in-Some.place < length xs) (sym c.as_slice-stops.ensures.value) (omega (arith, first.1))

pub returns-in-Some : goal.returns-in-Some
returns-in-Some c =
    let stops = c.self.inside.stops.items in
    let d = data_of c.args.value.now in
    let e = c.index-stops-place.result in
    let first : FindsFirst stops d 0 (Some c.in-Some.place) = subst (FindsFirst stops d 0) (sym c.in-Some.ensures) (finds_first c.self.inside.index stops d c.self.invariant) in
    let whole : c.in-Some.place ≡ c.in-Some.place - 0 = omega arith in
    ap (λ (xs : List Category). Some (output_seen (get_or xs c.in-Some.place e).output)) c.as_slice-stops.ensures.value
    ∙ (ap (λ n. Some (output_seen (get_or stops n e).output)) whole
    ∙ (sym (first.2 e) ∙ ap (λ (xs : List Category). chosen_output d (map category_seen xs)) c.self.view_is))

pub returns-in-None : goal.returns-in-None
returns-in-None c =
    let stops = c.self.inside.stops.items in
    let d = data_of c.args.value.now in
    let first : FindsFirst stops d 0 None = subst (FindsFirst stops d 0) (sym c.in-None.ensures) (finds_first c.self.inside.index stops d c.self.invariant) in
    sym first ∙ ap (λ (xs : List Category). chosen_output d (map category_seen xs)) c.self.view_is

pub offset_bounds-stops-place : goal.offset_bounds-stops-place
offset_bounds-stops-place c =
    let stops = c.self.inside.stops.items in
    let d = data_of c.args.value.now in
    let first : FindsFirst stops d 0 (Some c.in-Some.place) = subst (FindsFirst stops d 0) (sym c.in-Some.ensures) (finds_first c.self.inside.index stops d c.self.invariant) in
    let within : c.in-Some.place < length c.as_slice-stops.result.now = subst (λ (xs : List Category). c.in-Some.place < length xs) (sym c.as_slice-stops.ensures.value) (omega (arith, first.1)) in
    search rules
