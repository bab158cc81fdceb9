use Rattle.interpolate_fixed.proofs.Counts.{place_is_between, between_is_greatest}
use Rattle.interpolate_fixed.proofs.laws.places_are_greatest.Goals as goal

pub returns-clause-neighbours : goal.returns-clause-neighbours
returns-clause-neighbours c = place_is_between

pub returns-clause-greatest : goal.returns-clause-greatest
returns-clause-greatest c = between_is_greatest
