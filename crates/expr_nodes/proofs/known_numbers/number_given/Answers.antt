use Rattle.std.proofs.Common.{◌∙◌, ap}
use Rattle.std.proofs.lemmas.Option.{IfSome_then}
use Rattle.property_tables.specs.Fitting.{fit}
use Rattle.expr_nodes.proofs.known_numbers.number_given.Goals as goal

pub returns : goal.returns
returns c =
    IfSome_then c.number_in_value.result c.number_in_value.ensures
    (λ z is. ap (fit c.args.want.now) is ∙ c.takes_numbers.ensures c.if-not-takes_numbers.false z)
