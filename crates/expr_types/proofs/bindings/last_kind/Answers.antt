use Rattle.std.proofs.Common.{◌∙◌, sym}
use Rattle.prop_values.specs.declared.kinds.Kind.TheVariants.{Any}
use Rattle.expr_types.proofs.NameLaws.{kind_there}
use Rattle.expr_types.proofs.bindings.last_kind.Goals as goal

pub returns-in-Some : goal.returns-in-Some
returns-in-Some c =
    sym (kind_there c.args.bound.now.names.now c.args.bound.now.kinds.now c.args.asked.now c.in-Some.place Any c.args.bound.now.each (sym c.last_place.ensures.value ∙ c.in-Some.is))
