use Rattle.std.proofs.Common.{take}
use Rattle.decimal_json.specs.JsonText.{text_json}
use Rattle.decimal_json.specs.Writing.{AppendsPrefix}
use Rattle.decimal_json.proofs.Appending.{quoted_stop, quoted_whole, on_err}
use Rattle.decimal_json.proofs.writing.write_quoted_front.Goals as goal

pub returns-in_err-push-2-clause-err : goal.returns-in_err-push-2-clause-err
returns-in_err-push-2-clause-err c =
    let old = c.args.out.now.items in
    let b = take c.args.count c.args.block.now in
    let new = c.push-2.new.self.items in
    on_err (AppendsPrefix old new (text_json b)) c.from_residual-in_err-push-2.result (quoted_stop old c.push.new.self.items c.push_front.new.out.items new b c.requires.plain c.in_ok-push.ensures.items c.in_ok-push_front.ensures.ok c.in_err-push-2.ensures.items)

pub returns-clause-ok : goal.returns-clause-ok
returns-clause-ok c =
    quoted_whole c.args.out.now.items c.push.new.self.items c.push_front.new.out.items c.push-2.new.self.items (take c.args.count c.args.block.now) c.requires.plain c.in_ok-push.ensures.items c.in_ok-push_front.ensures.ok c.in_ok-push-2.ensures.items
