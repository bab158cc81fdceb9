use Rattle.std.proofs.Common.{rules, tests, ap, not}
use Rattle.std.proofs.lemmas.Iterator.{YieldsList-from_chars}
use Rattle.std.proofs.lemmas.Iterator.Search.{any_from_yields_List}
use Rattle.host_ops.specs.Script.{is_from_right}
use Rattle.host_ops.proofs.script_test.ScriptTestHostOp.answer.Goals as goal

pub returns : goal.returns
returns c =
    ap not (any_from_yields_List is_from_right _ _ _ c.any.ensures.ran
    (YieldsList-from_chars c.args.text.now c.utf8.text c.chars.ensures.rest) (λ x b q k. search (rules, tests)))
