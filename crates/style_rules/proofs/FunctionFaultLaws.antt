-- The faults of a legacy function are those that are reported of its expression.
use Rattle.std.specs.Prelude.{◌≡◌, List, Option, Some, None, Result, Ok, Err}
use Rattle.std.proofs.Common.{refl, sym, ap, ◌∙◌}
use Rattle.prop_values.specs.declared.kinds.Want.{Want}
use Rattle.property_tables.specs.Rows.{RowData}
use Rattle.expr_syntax.specs.Reading.{Reading, reading}
use Rattle.expr_syntax.specs.Term.{Term}
use Rattle.expr_types.specs.Checked.{checked}
use Rattle.expr_types.specs.Judged.{Judged}
use Rattle.expr_types.specs.JudgedFacts.{found_may, judged}
use Rattle.expr_types.specs.Typing.{Typed}
use Rattle.expr_types.specs.declared.fault.TypeFault.{TypeFault}
use Rattle.legacy_functions.specs.Function.{Function}
use Rattle.legacy_functions.specs.ToExpression.{function_expression}
use Rattle.style_rules.specs.CodeView.{judged_mark}
use Rattle.style_rules.specs.FunctionFaults.{faults_of_function, faults_of_judged, faults_of_reading}
use Rattle.style_rules.specs.Values.{faults_reports, function_faults, read_mark, typed_mark}
use Rattle.style_rules.proofs.ValueLaws.{judged_typed}

typed_reports : (t : Typed) → found_may t ≡ faults_reports (typed_mark t)
typed_reports (Ok found) = refl
typed_reports (Err fault) = refl

judged_reports : (r : Result Judged TypeFault) → faults_of_judged r ≡ faults_reports (judged_mark r)
judged_reports (Ok found) = refl
judged_reports (Err fault) = refl

-- what a check answers has the faults of the expression
pub judged_faults : (t : Term) (want : Want) (row : Option RowData) →
    faults_of_judged (judged (t, want) (checked t want row)) ≡ found_may (checked t want row)
judged_faults t want row =
    judged_reports (judged (t, want) (checked t want row))
    ∙ (ap faults_reports (judged_typed t want row) ∙ sym (typed_reports (checked t want row)))

reading_reports : (row : RowData) (r : Reading) → faults_of_reading row r ≡ faults_reports (read_mark row.want (Some row) r)
reading_reports row (Ok (Some t)) = typed_reports (checked t row.want (Some row))
reading_reports row (Ok None) = refl
reading_reports row (Err fault) = refl

-- a function that was read for the row
pub function_reports : (row read_for : RowData) (f : Function) → read_for ≡ row →
    faults_of_function row read_for f ≡ function_faults row f
function_reports row read_for f same =
    ap (λ r. faults_of_function row r f) same ∙ reading_reports row (reading (function_expression row f))
