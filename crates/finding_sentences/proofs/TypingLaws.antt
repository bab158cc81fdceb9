-- What the program's check answers, and what the definitions find.
use Rattle.std.specs.Prelude.{◌≡◌, [], List, Option, Some, Result, Ok, Err}
use Rattle.std.proofs.Common.{refl, ap}
use Rattle.decimal_json.specs.Tree.{Tree}
use Rattle.decimal_json.specs.declared.paths.PathPart.{PathPart}
use Rattle.prop_values.specs.declared.kinds.Want.{Want}
use Rattle.prop_values.specs.declared.kinds.Want.TheVariants as wants
use Rattle.property_tables.specs.Rows.{RowData}
use Rattle.expr_syntax.specs.Term.{Term}
use Rattle.expr_types.specs.Checked.{checked, checked_free}
use Rattle.expr_types.specs.Judged.{Judged}
use Rattle.expr_types.specs.JudgedFacts.{found_kind, judged, kind_of}
use Rattle.expr_types.specs.Typing.{Typed}
use Rattle.finding_sentences.specs.ExpressionSentence.{check_sentence, kind_typed}
use Rattle.finding_sentences.specs.Views.{judged_kind, judged_sentence}

sentence_of : (want : Want) (t : Tree) (more : List PathPart) (node : Tree) (pair : Judged) (r : Typed)
    → judged_sentence want t more node (judged pair r) ≡ check_sentence want t more node r
sentence_of want t more node pair (Ok found) = refl
sentence_of want t more node pair (Err fault) = refl

pub judged_sentence_is : (want : Want) (t : Tree) (more : List PathPart) (node : Tree) (term : Term) (row : Option RowData)
    → judged_sentence want t more node (judged (term, want) (checked term want row)) ≡ check_sentence want t more node (checked term want row)
judged_sentence_is want t more node term row = sentence_of want t more node (term, want) (checked term want row)

kind_found : (pair : Judged) (r : Typed) → kind_of pair ≡ found_kind r → judged_kind (judged pair r) ≡ kind_typed r
kind_found pair (Ok found) same = ap Some same
kind_found pair (Err fault) same = refl

pub judged_kind_is : (term : Term) → judged_kind (judged (term, wants.Any) (checked_free term)) ≡ kind_typed (checked_free term)
judged_kind_is term = kind_found (term, wants.Any) (checked_free term) refl
