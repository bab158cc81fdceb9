use Rattle.std.proofs.Common.{◌≡◌, drop}
use Rattle.expr_types.specs.Assertions.{some_color_text}
use Rattle.expr_types.specs.LiteralView.{literals_of}
use Rattle.expr_types.proofs.assertions.some_color_text.Given as goal

abbrev pub invariant-loop-argument : goal.invariant-loop-argument
invariant-loop-argument l = some_color_text (literals_of (drop l.argument-index l.arguments)) ≡ some_color_text (literals_of l.arguments)
