use Rattle.color_values.specs.Views.{number_view}
use Rattle.color_values.proofs.AmountLaws.{amount_above, amount_below}
use Rattle.color_values.proofs.amount.amount.Goals as goal

pub returns-then-number-clause-value : goal.returns-then-number-clause-value
returns-then-number-clause-value c = amount_below c.args.most c.args.unit (number_view c.args.number.now) c.if-number.true

pub returns-clause-value : goal.returns-clause-value
returns-clause-value c = amount_above c.args.most c.args.unit c.times.result (number_view c.args.number.now) c.if-number.false c.times.ensures.value
