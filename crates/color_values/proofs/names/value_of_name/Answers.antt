use Rattle.std.proofs.Common.{◌≡◌, ◌∙◌, sym, ap, arith}
use Rattle.std.specs.Prelude.{map}
use Rattle.std.specs.Char.{to_ascii_lowercase}
use Rattle.color_values.specs.ColorName.{names}
use Rattle.color_values.specs.Views.{value_among}
use Rattle.color_values.proofs.NameLaws.{value_of_letters, no_long_name}
use Rattle.color_values.proofs.names.value_of_name.Goals as goal

pub returns-then-name-gt-LONGEST : goal.returns-then-name-gt-LONGEST
returns-then-name-gt-LONGEST c = sym (no_long_name c.args.name.now (omega arith))

pub returns : goal.returns
unfolding names
returns c =
    let letters : c.make_ascii_lowercase.new.self ≡ map to_ascii_lowercase c.args.name.now = c.make_ascii_lowercase.ensures.after ∙ ap (map to_ascii_lowercase) c.copy_from_slice.ensures.after in
    c.value_among.ensures ∙ ap (λ x. value_among x names) letters ∙ sym (value_of_letters c.args.name.now)
