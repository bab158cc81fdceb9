use Rattle.interpolate_fixed.proofs.LineLaws.{line_of_component}
use Rattle.interpolate_fixed.proofs.laws.colors_never_overflow.Goals as goal

pub returns : goal.returns
returns c = line_of_component
