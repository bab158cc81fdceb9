use Rattle.std.proofs.Common.{ap, ◌∙◌, Some, if◌then◌else◌}
use Rattle.std.specs.Box.{boxed_str_bytes}
use Rattle.std.specs.Str.{bytes_eq}
use Rattle.legacy_functions.specs.CategoryIndex.{text_place}
use Rattle.legacy_functions.proofs.CategoryLaws.{text_noted}
use Rattle.legacy_functions.proofs.categories.note_text.Goals as goal

pub returns : goal.returns
returns c = λ s.
    text_noted (boxed_str_bytes c.in_ok-name.name) c.args.texts.now c.insert.new.self (Some c.args.place) c.in-Ok.ensures.updates s ∙
    ap (λ name. if bytes_eq name s then Some c.args.place else text_place c.args.texts.now s) c.in_ok-name.ensures.ok
