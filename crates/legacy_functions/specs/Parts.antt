-- What clauses see of the parts of a function.
use Rattle.decimal_json.specs.View.{tree_of}
use Rattle.prop_values.specs.View.{data_of}
use Rattle.legacy_functions.specs.declared.function.Category.{Category}
use Rattle.legacy_functions.specs.declared.function.Input.{Input as InputValue}
use Rattle.legacy_functions.specs.declared.function.Input.TheVariants as inputs
use Rattle.legacy_functions.specs.declared.function.NumberStop.{NumberStop}
use Rattle.legacy_functions.specs.declared.function.Output.{Output as OutputValue}
use Rattle.legacy_functions.specs.declared.function.Output.TheVariants as outputs
use Rattle.legacy_functions.specs.declared.function.Spelled.{Spelled as SpelledValue}
use Rattle.legacy_functions.specs.Function.{Spelled, Input, flag, number, word, Output, literal, tokens}

abbrev pub spelled_seen : SpelledValue → Spelled
spelled_seen n = record { spelled = n.spelled; value = n.value }

abbrev pub input_seen : InputValue → Input
input_seen (inputs.Flag b) = flag b
input_seen (inputs.Number n) = number (spelled_seen n)
input_seen (inputs.Word s) = word s

abbrev pub output_seen : OutputValue → Output
output_seen (outputs.Literal j v) = literal (tree_of j) (data_of v)
output_seen (outputs.Tokens s) = tokens s

abbrev pub stop_seen : NumberStop → Spelled × Output
stop_seen s = (spelled_seen s.input, output_seen s.output)

abbrev pub category_seen : Category → Input × Output
category_seen c = (input_seen c.input, output_seen c.output)
