use Rattle.std.proofs.Common.{◌≡◌, drop}
use Rattle.decimal_json.specs.View.{fields}
use Rattle.expr_syntax.specs.Standing.{other_options}
use Rattle.expr_syntax.proofs.standing.other_options.Given as goal

abbrev pub invariant-loop-option : goal.invariant-loop-option
invariant-loop-option l = other_options (fields (drop l.option-index l.options)) ≡ other_options (fields l.options)
