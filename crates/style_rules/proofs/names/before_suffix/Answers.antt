use Rattle.style_rules.specs.Places.{transition_suffix}
use Rattle.style_rules.proofs.SuffixLaws.{stripped}
use Rattle.style_rules.proofs.names.before_suffix.Goals as goal

pub returns : goal.returns
returns c = stripped transition_suffix c.args.name.now c.strip_suffix.result c.strip_suffix.ensures.cases
