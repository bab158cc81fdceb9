-- What is checked has a type, so that the law holds of it, or no places.
use Rattle.std.proofs.Common.{◌≡◌, [], false, Ok, Err, refl}
use Rattle.prop_values.specs.declared.kinds.Want.{Want}
use Rattle.expr_syntax.specs.ReadTerms.{IsRead}
use Rattle.expr_syntax.specs.Term.{Term}
use Rattle.expr_types.specs.JudgedFacts.{found_places}
use Rattle.expr_types.specs.Typing.{Typed, typed}
use Rattle.eval_face.specs.World.{World}
use Rattle.expr_nodes.specs.Marks.{MarksHold}
use Rattle.expr_nodes.proofs.ResolveLaws.{none_marked}
use Rattle.fit_laws.specs.MarkedNodes.{marks_of, CheckedNodesFit}
use Rattle.fit_laws.proofs.MarkedTermLaws.{marked_nodes_fit}

found_fit : (t : Term) (want : Want) (world : World) → IsRead [] t → (r : Typed) → typed t want [] [] ≡ r →
    MarksHold t want (marks_of (found_places r)) [] world
found_fit t want world read (Ok found) h = marked_nodes_fit [] t false want [] [] [] world found read h tt
found_fit t want world read (Err f) h = none_marked t want [] refl [] world

pub checked_nodes_fit : CheckedNodesFit
checked_nodes_fit t want world read = found_fit t want world read (typed t want [] []) refl
