-- What a check accepts has a type, so the laws hold of it.
use Rattle.std.proofs.Common.{◌≡◌, List, [], true, Option, Some, None, Ok, Err, refl, sym, subst, ap}
use Rattle.decimal_json.specs.declared.paths.PathPart.{PathPart}
use Rattle.prop_values.specs.Faults.{holds}
use Rattle.prop_values.specs.declared.kinds.Want.{Want}
use Rattle.prop_values.specs.declared.kinds.Want.TheVariants as wants
use Rattle.property_tables.specs.Rows.{RowData}
use Rattle.expr_syntax.specs.ReadTerms.{IsRead}
use Rattle.expr_syntax.specs.Term.{Term}
use Rattle.expr_types.specs.Allowed.{allowed_by, first_unread, stray_zoom_by}
use Rattle.expr_types.specs.Checked.{unless_at, allowed, checked}
use Rattle.expr_types.specs.Judged.{Judged}
use Rattle.expr_types.specs.JudgedFacts.{judged, found_kind, found_may}
use Rattle.expr_types.specs.Typing.{TypedNodes, Typed, typed}
use Rattle.expr_types.specs.Visits.{Visit, visits}
use Rattle.expr_types.specs.declared.fault.TypeCode.{TypeCode}
use Rattle.expr_types.specs.declared.fault.TypeCode.TheVariants as codes
use Rattle.expr_types.specs.declared.standing.Standing.TheVariants.{Reached}
use Rattle.typing_laws.specs.OfKind.{IsOfKind}
use Rattle.typing_laws.specs.TypingLaws.{KeepsTheLaws, CheckedExpressionsKeepTheLaws, FreeExpressionsKeepTheLaws}
use Rattle.typing_laws.proofs.PlaceLaws.{each_node_has_a_place}
use Rattle.typing_laws.proofs.TermLaws.{every_fault_is_listed, every_value_is_of_its_kind}

-- what is refused for its inputs or for a `zoom` is not accepted
accepted_at : (path : Option (List PathPart)) (code : TypeCode) (r : Typed) (found : TypedNodes) →
    unless_at path code r ≡ Ok found → r ≡ Ok found
accepted_at (Some path) code r found h = absurd (cc)
accepted_at None code r found h = h

accepted : (row : Option RowData) (vs : List Visit) (r : Typed) (found : TypedNodes) →
    allowed row vs r ≡ Ok found → r ≡ Ok found
accepted row vs (Ok f) found h =
    accepted_at (stray_zoom_by row vs) codes.ZoomPlace (Ok f) found
    (accepted_at (first_unread (allowed_by row) vs) codes.Input
    (unless_at (stray_zoom_by row vs) codes.ZoomPlace (Ok f)) found h)
accepted row vs (Err f) found h = absurd (cc)

-- the laws, where there is a type
typed_keeps : (t : Term) (want : Want) (found : TypedNodes) → IsRead [] t → typed t want [] [] ≡ Ok found →
    KeepsTheLaws t want (t, want)
typed_keeps t want found read h = record {
  faults = λ world fault gives. subst (λ may. holds may fault ≡ true) (sym (ap found_may h))
      (every_fault_is_listed t want world found fault (read, h) gives);
  values = λ world d gives. let law = every_value_is_of_its_kind t want world found d (read, h) gives in
      (subst (λ k. IsOfKind k d) (sym (ap found_kind h)) law.0, law.1);
  places = each_node_has_a_place t want found (read, h);
}

judged_keeps : (t : Term) (want : Want) (r : Typed) (j : Judged) →
    ((found : TypedNodes) → r ≡ Ok found → KeepsTheLaws t want (t, want)) → judged (t, want) r ≡ Ok j →
    KeepsTheLaws t want j
judged_keeps t want (Ok found) j law h = let same : (t, want) ≡ j = cc in subst (λ x. KeepsTheLaws t want x)
    same (law found refl)
judged_keeps t want (Err f) j law h = absurd (cc)

pub checked_expressions : CheckedExpressionsKeepTheLaws
checked_expressions t want row j read h = judged_keeps t want (checked t want row) j (λ found q. typed_keeps t
    want found read (accepted row (visits t Reached []) (typed t want [] []) found q)) h

pub free_expressions : FreeExpressionsKeepTheLaws
free_expressions t j read h = judged_keeps t wants.Any (typed t wants.Any [] []) j
    (λ found q. typed_keeps t wants.Any found read q) h
