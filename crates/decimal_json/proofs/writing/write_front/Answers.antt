use Rattle.std.proofs.Common.{◌++◌, ◌∙◌, ap, sym, take}
use Rattle.decimal_json.proofs.Appending.{unescaped_as_they_are}
use Rattle.decimal_json.proofs.writing.write_front.Goals as goal

pub returns-clause-ok : goal.returns-clause-ok
returns-clause-ok c =
    c.in_ok-extend_from_slice.ensures.items
    ∙ ap (λ x. c.args.out.now.items ++ x) (sym (unescaped_as_they_are (take c.unescaped_length-count.result c.args.bytes.now) c.unescaped_length-count.ensures.plain))
