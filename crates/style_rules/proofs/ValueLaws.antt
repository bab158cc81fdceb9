-- What a check of an expression answers, and what is reported of it.
use Rattle.std.specs.Prelude.{◌≡◌, List, [], Option, Some, None, Ok, Err}
use Rattle.std.proofs.Common.{refl, ap}
use Rattle.decimal_json.specs.declared.paths.PathPart.{PathPart}
use Rattle.prop_values.specs.declared.kinds.Want.{Want}
use Rattle.property_tables.specs.Rows.{RowData}
use Rattle.expr_syntax.specs.Term.{Term}
use Rattle.expr_types.specs.Allowed.{allowed_by, first_unread, stray_zoom_by}
use Rattle.expr_types.specs.Checked.{unless_at, allowed, checked}
use Rattle.expr_types.specs.Judged.{Judged}
use Rattle.expr_types.specs.JudgedFacts.{judged, may_of, found_may}
use Rattle.expr_types.specs.Typing.{TypedNodes, Typed, typed}
use Rattle.expr_types.specs.Visits.{Visit, visits}
use Rattle.expr_types.specs.declared.fault.TypeCode.TheVariants as types
use Rattle.expr_types.specs.declared.standing.Standing.TheVariants.{Reached}
use Rattle.style_rules.specs.CodeView.{judged_mark}
use Rattle.style_rules.specs.Values.{typed_mark}
use Rattle.style_rules.specs.declared.diagnostics.Mark.TheVariants.{Sound}

allowed_found : (a b : Option (List PathPart)) (found : TypedNodes) (pair : Judged) → may_of pair ≡ found.node.may →
    judged_mark (judged pair (unless_at a types.Input (unless_at b types.ZoomPlace (Ok found)))) ≡ typed_mark (unless_at a types.Input (unless_at b types.ZoomPlace (Ok found)))
allowed_found (Some path) b found pair same = refl
allowed_found None (Some path) found pair same = refl
allowed_found None None found pair same = ap Sound same

allowed_typed : (row : Option RowData) (vs : List Visit) (t : Typed) (pair : Judged) → may_of pair ≡ found_may t → judged_mark (judged pair (allowed row vs t)) ≡ typed_mark (allowed row vs t)
allowed_typed row vs (Ok found) pair same = allowed_found (first_unread (allowed_by row) vs) (stray_zoom_by row vs) found pair same
allowed_typed row vs (Err fault) pair same = refl

pub judged_typed : (t : Term) (want : Want) (row : Option RowData) → judged_mark (judged (t, want) (checked t want row)) ≡ typed_mark (checked t want row)
judged_typed t want row = allowed_typed row (visits t Reached []) (typed t want [] []) (t, want) refl
