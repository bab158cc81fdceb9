use Rattle.std.proofs.Common.{◌∙◌}
use Rattle.view_desk.proofs.ViewPlaces.{is_there}
use Rattle.view_desk.proofs.desk.is_open.Goals as goal

pub returns : goal.returns
returns c = c.is_some.ensures ∙ is_there c.args.name.now c.args.views.now c.place_of.result c.place_of.ensures.place
