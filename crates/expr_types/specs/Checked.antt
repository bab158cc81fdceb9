-- The check of an expression: its first type fault, then the first node that reads what may not be read
-- there, then the first `zoom` that is not the input of the root.
use Rattle.std.specs.Prelude.{ℕ, List, [], Option, Some, None, Result, Ok, Err}
use Rattle.decimal_json.specs.declared.paths.PathPart.{PathPart}
use Rattle.prop_values.specs.declared.kinds.Want.{Want}
use Rattle.prop_values.specs.declared.kinds.Want.TheVariants as wants
use Rattle.property_tables.specs.Rows.{RowData}
use Rattle.expr_syntax.specs.Term.{Term}
use Rattle.expr_types.specs.Allowed.{allowed_by, first_unread, stray_zoom_by}
use Rattle.expr_types.specs.Typing.{TypedNodes, Typed, fault, typed}
use Rattle.expr_types.specs.Visits.{Visit, visits}
use Rattle.expr_types.specs.declared.fault.TypeCode.{TypeCode}
use Rattle.expr_types.specs.declared.fault.TypeCode.TheVariants as codes
use Rattle.expr_types.specs.declared.standing.Standing.TheVariants.{Reached}

abbrev pub unless_at : Option (List PathPart) → TypeCode → Typed → Typed
unless_at (Some path) code typed = fault TypedNodes path code
unless_at None code typed = typed

abbrev pub allowed : Option RowData → List Visit → Typed → Typed
allowed row vs (Ok found) =
    unless_at (first_unread (allowed_by row) vs) codes.Input
    (unless_at (stray_zoom_by row vs) codes.ZoomPlace (Ok found))
allowed row vs (Err f) = Err f

-- as the value of a property of a row, or as a filter where there is none
abbrev pub checked : Term → Want → Option RowData → Typed
checked t want row = allowed row (visits t Reached []) (typed t want [] [])

-- by itself: every input is allowed, and `zoom` may be anywhere
abbrev pub checked_free : Term → Typed
checked_free t = typed t wants.Any [] []
