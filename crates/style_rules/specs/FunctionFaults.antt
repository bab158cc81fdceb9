-- The faults that the evaluation of a legacy function may have, without what is reported of its place. They are
-- `function_faults` of Values.
use Rattle.std.specs.Prelude.{Box, Option, Some, None, Result, Ok, Err}
use Rattle.std.specs.declared.alloc.Global.{Global}
use Rattle.prop_values.specs.Faults.{no_faults}
use Rattle.prop_values.specs.declared.fault.FaultSet.{FaultSet}
use Rattle.property_tables.specs.RowView.{row_seen}
use Rattle.property_tables.specs.Rows.{RowData}
use Rattle.expr_syntax.specs.Reading.{Reading, reading}
use Rattle.expr_types.specs.Checked.{checked}
use Rattle.expr_types.specs.Judged.{Judged}
use Rattle.expr_types.specs.JudgedFacts.{found_may, may_of}
use Rattle.expr_types.specs.declared.fault.TypeFault.{TypeFault}
use Rattle.legacy_functions.specs.Function.{Function}
use Rattle.legacy_functions.specs.ToExpression.{function_expression}
use Rattle.legacy_functions.specs.View.{function_of, row_of}
use Rattle.style_rules.specs.declared.possible_faults.RowFunction.{RowFunction}

-- those of an expression, as the value of a row
abbrev pub faults_of_reading : RowData → Reading → FaultSet
faults_of_reading row (Ok (Some t)) = found_may (checked t row.want (Some row))
faults_of_reading row (Ok None) = no_faults
faults_of_reading row (Err fault) = no_faults

abbrev pub faults_of_judged : Result Judged TypeFault → FaultSet
faults_of_judged (Ok found) = may_of found
faults_of_judged (Err fault) = no_faults

-- those of a function that was read for a row
abbrev pub faults_of_function : RowData → RowData → Function → FaultSet
faults_of_function row read_for f = faults_of_reading row (reading (function_expression read_for f))

-- those that are known, or those of a function
abbrev pub possible_faults : FaultSet → Option (Box RowFunction Global) → FaultSet
possible_faults known (Some held) =
    faults_of_function (row_seen held.value.row) (row_of held.value.function) (function_of held.value.function)
possible_faults known None = known
