-- What a check says of an expression that was read.
use Rattle.std.proofs.Common.{◌≡◌, [], Option, Some, Ok, Err, sym, ap}
use Rattle.decimal_json.specs.Tree.{Tree}
use Rattle.prop_values.specs.declared.kinds.Want.{Want}
use Rattle.property_tables.specs.Rows.{RowData}
use Rattle.expr_syntax.specs.ReadTerms.{IsRead, ReadTermsAreSound}
use Rattle.expr_syntax.specs.Reading.{reading}
use Rattle.expr_syntax.specs.Term.{Term}
use Rattle.expr_types.specs.Checked.{checked}
use Rattle.expr_types.specs.Judged.{Judged}
use Rattle.expr_types.specs.JudgedFacts.{judged, places_in}
use Rattle.expr_types.specs.Typing.{Typed}

pub is_read : ReadTermsAreSound → (tree : Tree) (t : Term) → Ok (Some t) ≡ reading tree → IsRead [] t
is_read law tree t h = law tree [] t (sym h)

judged_is : (r : Typed) (pair given : Judged) → Ok pair ≡ judged given r → pair ≡ given
judged_is (Ok found) pair given is = cc
judged_is (Err fault) pair given is = absurd (cc)

pub own_places : (t : Term) (want : Want) (row : Option RowData) (pair : Judged) →
    Ok pair ≡ judged (t, want) (checked t want row) → places_in pair ≡ places_in (t, want)
own_places t want row pair is = ap places_in (judged_is (checked t want row) pair (t, want) is)
