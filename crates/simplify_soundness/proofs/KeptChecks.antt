-- A term of the kind of another, which reads no more and has no more `zoom` nodes that are no input, is checked without
-- fault where the other is.
use Rattle.std.proofs.Common.{◌≡◌, ◌∙◌, ◌≤◌, List, [], Option, Some, None, Ok, Err, refl, ap, arith}
use Rattle.decimal_json.specs.declared.paths.PathPart.{PathPart}
use Rattle.prop_values.specs.declared.kinds.Want.{Want}
use Rattle.property_tables.specs.Rows.{RowData}
use Rattle.expr_syntax.specs.Term.{Term}
use Rattle.expr_types.specs.Allowed.{Allowed, allowed_by, first_unread, stray_zoom_by}
use Rattle.expr_types.specs.Checked.{allowed, checked, unless_at}
use Rattle.expr_types.specs.Typing.{TypedNodes, Typed, typed}
use Rattle.expr_types.specs.Visits.{Visit, visits}
use Rattle.expr_types.specs.declared.fault.TypeCode.{TypeCode}
use Rattle.expr_types.specs.declared.fault.TypeCode.TheVariants as codes
use Rattle.expr_types.specs.declared.standing.Standing.{Standing}
use Rattle.expr_types.specs.declared.standing.Standing.TheVariants.{Reached}
use Rattle.simplify_laws.proofs.Measures.{Weights, measure}
use Rattle.simplify_laws.proofs.Strays.{is_unread, none_unread, placed_zoom, sought_weights, strays, tallied, unread_none, zoom_placed, zooms}
use Rattle.simplify_laws.proofs.TermKinds.{HasKind, IsTyped}

unless_ok : (o : Option (List PathPart)) (code : TypeCode) (r : Typed) (found : TypedNodes) → unless_at o code r ≡ Ok found → (o ≡ None) × (r ≡ Ok found)
unless_ok None code r found h = (refl, h)
unless_ok (Some path) code r found h = absurd (cc)

-- what was checked without fault is typed, and reads what it may at its place
allowed_ok : (row : Option RowData) (vs : List Visit) (r : Typed) (found : TypedNodes) → allowed row vs r ≡ Ok found → (first_unread (allowed_by row) vs ≡ None) × (stray_zoom_by row vs ≡ None) × (r ≡ Ok found)
allowed_ok row vs (Ok x) found h =
    let (unread, rest) = unless_ok (first_unread (allowed_by row) vs) codes.Input (unless_at (stray_zoom_by row vs) codes.ZoomPlace (Ok x)) found h in
    let (stray, is) = unless_ok (stray_zoom_by row vs) codes.ZoomPlace (Ok x) found rest in
    (unread, stray, is)
allowed_ok row vs (Err f) found h = absurd (cc)

pub checked_kind : (want : Want) (row : Option RowData) (t : Term) (found : TypedNodes) → checked t want row ≡ Ok found → IsTyped t want [] found.node.kind
checked_kind want row t found h =
    let (unread, stray, is) = allowed_ok row (visits t Reached []) (typed t want [] []) found h in
    ([], (found, is, refl))

module _ (new old : Term) (lighter : (w : Weights) → measure w new ≤ measure w old) (calmer : (s : Standing) → strays new s ≤ strays old s) where
  unread_kept : (allows : Allowed) → first_unread allows (visits old Reached []) ≡ None → first_unread allows (visits new Reached []) ≡ None
  unread_kept allows h =
      let before = tallied (is_unread allows) old Reached [] in
      let after = tallied (is_unread allows) new Reached [] in
      let none = none_unread allows (visits old Reached []) h in
      let less = lighter (sought_weights (is_unread allows)) in
      unread_none allows (visits new Reached []) (omega (arith, before, after, none, less))

  stray_kept : (row : Option RowData) → stray_zoom_by row (visits old Reached []) ≡ None → stray_zoom_by row (visits new Reached []) ≡ None
  stray_kept None h = refl
  stray_kept (Some row) h =
      let (none, few) = placed_zoom old h in
      let less = lighter zooms in
      let calm = calmer Reached in
      zoom_placed new (omega (arith, none, calm)) (omega (arith, few, less))

  pub checked_kept : (want : Want) (row : Option RowData) (found : TypedNodes) → HasKind new want [] found.node.kind → checked old want row ≡ Ok found → (x : TypedNodes) × (checked new want row ≡ Ok x)
  checked_kept want row found has h =
      let (unread, stray, was) = allowed_ok row (visits old Reached []) (typed old want [] []) found h in
      let (x, is, kind) = has [] in
      let unread_now = unread_kept (allowed_by row) unread in
      let stray_now = stray_kept row stray in
      (x, ap (allowed row (visits new Reached [])) is ∙ (λ i. unless_at (unread_now i) codes.Input (unless_at (stray_now i) codes.ZoomPlace (Ok x))))
