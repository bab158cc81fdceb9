use Rattle.decimal_json.specs.JsonText.{text_json}
use Rattle.decimal_json.specs.Writing.{AppendsPrefix}
use Rattle.decimal_json.proofs.Appending.{quoted_stop, quoted_whole, on_err}
use Rattle.decimal_json.proofs.writing.write_quoted.Goals as goal

pub returns-in_err-push-2-clause-err : goal.returns-in_err-push-2-clause-err
returns-in_err-push-2-clause-err c =
    let old = c.args.out.now.items in
    let b = c.args.bytes.now in
    let two = c.extend_from_slice.new.self.items in
    let new = c.push-2.new.self.items in
    on_err (AppendsPrefix old new (text_json b)) c.from_residual-in_err-push-2.result (quoted_stop old c.push.new.self.items two new b c.requires c.in_ok-push.ensures.items c.in_ok-extend_from_slice.ensures.items c.in_err-push-2.ensures.items)

pub returns-clause-ok : goal.returns-clause-ok
returns-clause-ok c =
    quoted_whole c.args.out.now.items c.push.new.self.items c.extend_from_slice.new.self.items c.push-2.new.self.items c.args.bytes.now c.requires c.in_ok-push.ensures.items c.in_ok-extend_from_slice.ensures.items c.in_ok-push-2.ensures.items
