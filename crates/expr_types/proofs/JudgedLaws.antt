-- What a check says of an expression.
use Rattle.std.specs.Prelude.{List, [], Bool, true, false, Option, Some, None, is_some, option_map, Result, Ok, Err}
use Rattle.std.proofs.Common.{◌≡◌, ◌<◌, ◌∙◌, ap, sym, refl, subst, length, arith}
use Rattle.decimal_json.specs.declared.paths.PathPart.{PathPart}
use Rattle.prop_values.specs.declared.kinds.Want.{Want}
use Rattle.property_tables.specs.Rows.{RowData}
use Rattle.expr_syntax.specs.Term.{Term}
use Rattle.expr_types.specs.Allowed.{allowed_by, first_unread, first_stray_zoom}
use Rattle.expr_types.specs.Checked.{allowed, checked}
use Rattle.expr_types.specs.Judged.{Judged}
use Rattle.expr_types.specs.JudgedFacts.{found_kind, found_may, found_places, places_in, judged, zoom_or, stray_or}
use Rattle.expr_types.specs.Typing.{Typed, TypedNodes, fault, typed}
use Rattle.expr_types.specs.TypedView.{root_of, added}
use Rattle.expr_types.specs.Visits.{Visit, visits}
use Rattle.expr_types.specs.declared.fault.TypeCode.TheVariants as codes
use Rattle.expr_types.specs.declared.fault.TypeFault.{TypeFault}
use Rattle.expr_types.specs.declared.placed.Kinded.{Kinded}
use Rattle.expr_types.specs.declared.placed.Placed.{Placed}
use Rattle.expr_types.specs.declared.standing.Standing.TheVariants.{Reached}

pub kind_found : (t : Typed) (k : Kinded) → Ok k ≡ root_of t → k.kind ≡ found_kind t
kind_found (Ok f) k is = let same : k ≡ f.node = cc in ap (λ j. j.kind) same
kind_found (Err e) k is = absurd (cc)

pub may_found : (t : Typed) (k : Kinded) → Ok k ≡ root_of t → k.may ≡ found_may t
may_found (Ok f) k is = let same : k ≡ f.node = cc in ap (λ j. j.may) same
may_found (Err e) k is = absurd (cc)

pub places_found : (t : Typed) (places : List Placed) → Ok places ≡ added [] t → places ≡ found_places t
places_found (Ok f) places is = cc
places_found (Err e) places is = absurd (cc)

pub judged_found : (t : Typed) (k : Kinded) (pair : Judged) → Ok k ≡ root_of t → Ok pair ≡ judged pair t
judged_found (Ok f) k pair is = refl
judged_found (Err e) k pair is = absurd (cc)

pub judged_fault : (t : Typed) (e : TypeFault) (pair : Judged) → Err e ≡ root_of t → Err e ≡ judged pair t
judged_fault (Ok f) e pair is = absurd (cc)
judged_fault (Err g) e pair is = cc

-- what is where it may not be
stray_by : (unread zoom : Option (List PathPart)) (row : Option RowData) (f : TypedNodes) (pair : Judged) → (vs : List Visit) → unread ≡ first_unread (allowed_by row) vs → zoom ≡ first_stray_zoom vs → stray_or unread zoom (is_some row) pair ≡ judged pair (allowed row vs (Ok f))
stray_by (Some path) zoom row f pair vs u z = rw (← u) refl
stray_by None (Some path) (Some row) f pair vs u z = rw (← u) (rw (← z) refl)
stray_by None None (Some row) f pair vs u z = rw (← u) (rw (← z) refl)
stray_by None (Some path) None f pair vs u z = rw (← u) refl
stray_by None None None f pair vs u z = rw (← u) refl

pub stray_found : (t : Typed) (unread zoom : Option (List PathPart)) (row : Option RowData) (b : Bool) (x pair : Judged) (vs : List Visit) → Ok x ≡ judged pair t → unread ≡ first_unread (allowed_by row) vs → zoom ≡ first_stray_zoom vs → b ≡ is_some row → stray_or unread zoom b x ≡ judged pair (allowed row vs t)
stray_found (Ok f) unread zoom row b x pair vs is u z there =
    let same : x ≡ pair = cc in
    ap (λ y. stray_or unread zoom b y) same ∙ (ap (λ c. stray_or unread zoom c pair) there ∙ stray_by unread zoom row f pair vs u z)
stray_found (Err e) unread zoom row b x pair vs is u z there = absurd (cc)

pub mapped_some : {A : Type 0} {B : Type 0} (f : A → B) (o : Option A) → is_some o ≡ is_some (option_map f o)
mapped_some f (Some a) = refl
mapped_some f None = refl

pub fault_kept : (t : Typed) (e : TypeFault) (row : Option RowData) (pair : Judged) (vs : List Visit) → Err e ≡ judged pair t → Err e ≡ judged pair (allowed row vs t)
fault_kept (Ok f) e row pair vs is = absurd (cc)
fault_kept (Err g) e row pair vs is = is

-- For callers: what was checked has a root, of which the want is known.
judged_is : (t : Typed) (pair given : Judged) → Ok pair ≡ judged given t → pair ≡ given
judged_is (Ok f) pair given is = cc
judged_is (Err e) pair given is = absurd (cc)

root_there : (t : Typed) (row : Option RowData) (vs : List Visit) (pair given : Judged) → Ok pair ≡ judged given (allowed row vs t) → 0 < length (found_places t)
root_there (Ok f) row vs pair given is = omega arith
root_there (Err e) row vs pair given is = absurd (cc)

pub has_root : (t : Term) (want : Want) (row : Option RowData) (pair : Judged) → Ok pair ≡ judged (t, want) (checked t want row) → 0 < length (places_in pair)
has_root t want row pair is =
    let same : pair ≡ (t, want) = judged_is (checked t want row) pair (t, want) is in
    subst (λ p. 0 < length (places_in p)) (sym same) (root_there (typed t want [] []) row (visits t Reached []) pair (t, want) is)
