use Rattle.std.proofs.Common.{ap, ◌∙◌, Some, if◌then◌else◌}
use Rattle.std.specs.Box.{boxed_str_bytes}
use Rattle.std.specs.Str.{bytes_eq}
use Rattle.expr_syntax.specs.TextNumbers.{number_of_text}
use Rattle.expr_syntax.proofs.TextNumberLaws.{text_noted}
use Rattle.expr_syntax.proofs.text_numbers.note_text.Goals as goal

pub returns : goal.returns
returns c = λ s.
    text_noted (boxed_str_bytes c.in_ok-name.name) c.args.texts.now c.insert.new.self (Some c.args.number) c.in-Ok.ensures.updates s ∙
    ap (λ name. if bytes_eq name s then Some c.args.number else number_of_text c.args.texts.now s) c.in_ok-name.ensures.ok
