-- What is known of an expression that was checked: it follows from the expression and the want.
use Rattle.std.specs.Prelude.{ℕ, List, [], Bool, false, Option, Some, None, Result, Ok, Err, if◌then◌else◌}
use Rattle.std.specs.List.{slice_get}
use Rattle.decimal_json.specs.declared.paths.PathPart.{PathPart}
use Rattle.prop_values.specs.Faults.{no_faults}
use Rattle.prop_values.specs.declared.fault.FaultSet.{FaultSet}
use Rattle.prop_values.specs.declared.kinds.Kind.{Kind}
use Rattle.prop_values.specs.declared.kinds.Kind.TheVariants as kinds
use Rattle.prop_values.specs.declared.kinds.Want.{Want}
use Rattle.prop_values.specs.declared.kinds.Want.TheVariants as wants
use Rattle.expr_types.specs.Typing.{Typed, places_of, typed}
use Rattle.expr_types.specs.declared.fault.TypeCode.TheVariants as codes
use Rattle.expr_types.specs.declared.fault.TypeFault.{TypeFault}
use Rattle.expr_types.specs.declared.placed.Placed.{Placed}
use Rattle.expr_types.specs.Judged.{Judged}

abbrev pub found_kind : Typed → Kind
found_kind (Ok found) = found.node.kind
found_kind (Err f) = kinds.Any

abbrev pub found_may : Typed → FaultSet
found_may (Ok found) = found.node.may
found_may (Err f) = no_faults

abbrev pub found_places : Typed → List Placed
found_places (Ok found) = places_of found
found_places (Err f) = []

abbrev pub kind_of : Judged → Kind
kind_of judged = found_kind (typed judged.0 judged.1 [] [])

-- the faults that it may give
abbrev pub may_of : Judged → FaultSet
may_of judged = found_may (typed judged.0 judged.1 [] [])

-- what is known of its nodes, in preorder
abbrev pub places_in : Judged → List Placed
places_in judged = found_places (typed judged.0 judged.1 [] [])

-- the want of the node of a place, and whether it always fits
abbrev pub placed_want : Option Placed → Want
placed_want (Some placed) = placed.want
placed_want None = wants.Any

abbrev pub placed_always : Option Placed → Bool
placed_always (Some placed) = placed.always
placed_always None = false

abbrev pub want_in : List Placed → ℕ → Want
want_in places k = placed_want (slice_get places k)

abbrev pub always_in : List Placed → ℕ → Bool
always_in places k = placed_always (slice_get places k)

-- what a check answers: the expression and the want, or the fault
abbrev pub judged : Judged → Typed → Result Judged TypeFault
judged pair (Ok found) = Ok pair
judged pair (Err f) = Err f

-- where nothing is where it may not be
abbrev pub zoom_or : Option (List PathPart) → Bool → Judged → Result Judged TypeFault
zoom_or (Some path) has_row pair = if has_row then Err (record { path = path; code = codes.ZoomPlace }) else Ok pair
zoom_or None has_row pair = Ok pair

abbrev pub stray_or : Option (List PathPart) → Option (List PathPart) → Bool → Judged → Result Judged TypeFault
stray_or (Some path) zoom has_row pair = Err (record { path = path; code = codes.Input })
stray_or None zoom has_row pair = zoom_or zoom has_row pair
