use Rattle.std.specs.Prelude.{codes}
use Rattle.fixed_num.specs.NumberText.{number_text}
use Rattle.finding_sentences.proofs.Appending.{at_once}
use Rattle.finding_sentences.proofs.wanted.write_least.Goals as goal

pub returns : goal.returns
returns c = at_once _ _ (codes " of at least ") (number_text c.args.least) c.in_ok-write_limit.ensures
