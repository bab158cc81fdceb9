-- What was checked has a root, of which the want is known.
use Rattle.std.specs.Prelude.{List, [], Option, Result, Ok, Err}
use Rattle.std.proofs.Common.{◌≡◌, ◌<◌, sym, subst, length, arith}
use Rattle.prop_values.specs.declared.kinds.Want.{Want}
use Rattle.property_tables.specs.Rows.{RowData}
use Rattle.expr_syntax.specs.Term.{Term}
use Rattle.expr_types.specs.Checked.{allowed, checked}
use Rattle.expr_types.specs.Judged.{Judged}
use Rattle.expr_types.specs.JudgedFacts.{found_places, places_in, judged}
use Rattle.expr_types.specs.Typing.{Typed, typed}
use Rattle.expr_types.specs.Visits.{Visit, visits}
use Rattle.expr_types.specs.declared.standing.Standing.TheVariants.{Reached}

judged_is : (t : Typed) (pair given : Judged) → Ok pair ≡ judged given t → pair ≡ given
judged_is (Ok f) pair given is = cc
judged_is (Err e) pair given is = absurd (cc)

root_there : (t : Typed) (row : Option RowData) (vs : List Visit) (pair given : Judged) → Ok pair ≡ judged given (allowed row vs t) → 0 < length (found_places t)
root_there (Ok f) row vs pair given is = omega arith
root_there (Err e) row vs pair given is = absurd (cc)

pub has_root : (t : Term) (want : Want) (row : Option RowData) (pair : Judged) → Ok pair ≡ judged (t, want) (checked t want row) → 0 < length (places_in pair)
has_root t want row pair is =
    let same : pair ≡ (t, want) = judged_is (checked t want row) pair (t, want) is in
    subst (λ p. 0 < length (places_in p)) (sym same) (root_there (typed t want [] []) row (visits t Reached []) pair (t, want) is)
