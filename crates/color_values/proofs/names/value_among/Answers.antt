use Rattle.std.proofs.Common.{rules}
use Rattle.std.specs.Cmp.Lexicographic.{slice_cmp}
use Rattle.std.specs.Ordering.{nat_cmp}
use Rattle.std.proofs.lemmas.Fn.{always_returns_same}
use Rattle.color_values.proofs.NameLaws.{name_is_found, name_is_none}
use Rattle.color_values.proofs.names.value_among.Goals as goal

pub returns-in-Ok : goal.returns-in-Ok
returns-in-Ok c =
    name_is_found c.args.name.now c.args.names.now c.in-Ok.place _ c.requires c.in-Ok.ensures.bound (c.in-Ok.ensures.position (λ n. slice_cmp nat_cmp n.0.now c.args.name.now) (always_returns_same _ _ _ (λ a r f called. search rules)))

pub returns-in-Err : goal.returns-in-Err
returns-in-Err c =
    name_is_none c.args.name.now c.args.names.now c.in-Err._place c.requires c.in-Err.ensures.bound (c.in-Err.ensures.position (λ n. slice_cmp nat_cmp n.0.now c.args.name.now) (always_returns_same _ _ _ (λ a r f called. search rules)))
